-- `call_lose_call`: its contract, `WereMade`, and what the second call asks for.
use Rattle.std.proofs.Common.{⊎_elim, inl, inr, refl}
use Rattle.command_words.specs.Files.{program, begin}
use Rattle.command_words.specs.Words.{Asks}
use Rattle.promise.specs.Campaign.{command_to}
use Rattle.promise.proofs.MadeLemmas.{takes_none, entered, is_campaign}
use Rattle.promise.proofs.made.call_lose_call.Goals as goal

pub flash-last-requires : goal.flash-last-requires
flash-last-requires g c = λ command asks. takes_none (g.I.Inputs.may_take c.flash-first.new.inputs) c.args.again.now command c.requires.again asks

pub returns : goal.returns
returns g c = λ told asked goal asks again free. record {
  ended = c.flash-first.new.bench;
  lost = c.power_loss.new.self;
  taken = g.I.Inputs.state c.flash-first.new.inputs;
  put = g.O.Sink.state c.flash-first.new.out;
  campaign = is_campaign asked goal _ _
      (⊎_elim
      (λ (is : Asks c.args.words.now (program asked)). inl (c.flash-first.ensures.promise refl told (program asked) is))
      (λ (is : Asks c.args.words.now (begin asked)). inr (c.flash-first.ensures.promise refl told (begin asked) is))
      asks)
      free
      (⊎_elim
      (λ (is : Asks c.args.words.now (program asked)). c.flash-first.ensures.forward refl (program asked) is)
      (λ (is : Asks c.args.words.now (begin asked)). c.flash-first.ensures.forward refl (begin asked) is)
      asks)
      (c.flash-last.ensures.promise refl told (command_to goal) again) (c.flash-last.ensures.forward refl (command_to goal) again)
      (entered c.flash-first.new.bench c.power_loss.new.self c.power_loss.ensures.left c.power_loss.ensures.rest);
}
