-- `Session::geometry_of`: that it keeps its contract, and what `region` requires.
use Rattle.flash_session.proofs.LentLemmas.{region_inside, layout_from}
use Rattle.flash_session.proofs.session.Session.geometry_of.Goals as goal

pub region-requires : goal.region-requires
region-requires c = region_inside c.args.self.now.job c.in-Some.survey c.args.region (c.args.self.now.works c.in-Some.survey c.in-Some.is) c.requires.region

pub returns : goal.returns
returns c =
    layout_from c.args.self.now.survey c.in-Some.survey c.args.region c.region.result.now c.in-Some.is
    (region_inside c.args.self.now.job c.in-Some.survey c.args.region (c.args.self.now.works c.in-Some.survey c.in-Some.is) c.requires.region)
    c.region.ensures
