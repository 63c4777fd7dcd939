-- `read_images`: that its loop keeps its invariant.
use Rattle.std.proofs.Common.{◌≡◌, ◌∙◌, [], arith, sym, subst, rules, ℕ, List}
use Rattle.std.proofs.lemmas.Option.{get_or_from_slice_get}
use Rattle.std.proofs.lemmas.List.{get_or_default}
use Rattle.command_words.specs.Names.{names_of}
use Rattle.image_more.specs.Place.{file_at}
use Rattle.command_files.specs.Steps.{IsAddFault}
use Rattle.command_files.proofs.WantedLemmas.{union_more}
use Rattle.command_files.proofs.wanted.read_images.Goals as goal

pub loop-index-preserved : goal.loop-index-preserved
loop-index-preserved c =
    let file = c.index-files-index.result in
    let is : c.bytes.result.now ≡ file_at c.args.files.now c.loop-index.index =
    c.bytes.ensures ∙ c.index-files-index.is ∙ get_or_default c.args.files.now c.loop-index.index file [] (omega arith) in
    union_more c.args.raw_at c.args.files.now c.loop-index.index c.loop-index.image c.add_image.new.into _ is c.loop-index.invariant c.in-Ok.ensures.ok

pub returns-in-Err : goal.returns-in-Err
returns-in-Err c =
    let index = c.loop-index.index in
    let file = c.index-files-index.result in
    let is : c.bytes.result.now ≡ file_at c.args.files.now index =
    c.bytes.ensures ∙ c.index-files-index.is ∙ get_or_default c.args.files.now index file [] (omega arith) in
    record {
      place = index;
      inside = omega arith;
      name_is = sym (get_or_from_slice_get (names_of c.args.names.now) index c.name.result.now [] c.name.ensures);
      before = c.loop-index.image;
      is_before = c.loop-index.invariant;
      is_fault = subst (λ (l : List ℕ). IsAddFault c.args.raw_at l c.loop-index.image c.in-Err.fault) is c.in-Err.ensures.err;
      no_memory = search rules;
    }
