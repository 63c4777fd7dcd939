-- `campaigns_are_safe`: that it keeps its contract.
use Rattle.campaign.proofs.CampaignLemmas as law
use Rattle.campaign.proofs.campaigns_are_safe.Goals as goal

pub returns : goal.returns
returns g c = law.campaigns_are_safe g.H.History.campaign
