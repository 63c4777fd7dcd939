-- What a call that makes a file ensures of the file, and what a refusal says.
use Rattle.std.proofs.Common.{◌≡◌, inl, inr, ℕ, ◌<◌, ◌^◌, List, length, refl, ap, ◌∙◌, arith}
use Rattle.std.specs.Prelude.{Result, Ok, Err}
use Rattle.armv6m_asm.specs.declared.code.Code.{Code}
use Rattle.armv6m_asm.specs.declared.fault.AsmFault.{AsmFault}
use Rattle.armv6m_asm.specs.declared.fault.AsmFault.TheVariants as asm
use Rattle.armv6m_asm.specs.Assembly.{IsAssembled, IsRefused}
use Rattle.armv6m_asm.proofs.OutcomeLemmas.{one_refusal, refused_or_assembled}
use Rattle.flm_descriptor.specs.Flm.{flm_of}
use Rattle.flm_forge.specs.declared.fault.ForgeFault.{ForgeFault}
use Rattle.flm_forge.specs.declared.fault.ForgeFault.TheVariants as fault
use Rattle.flm_forge.specs.declared.source.Listing.{Listing}
use Rattle.flm_forge.specs.Device.{ListingFits}
use Rattle.flm_forge.specs.File.{file_of, sizes_of}
use Rattle.flm_forge.specs.Places.{end_of}
use Rattle.flm_forge.specs.Read.{AnswersRefusal, IsForged}
use Rattle.flm_forge.specs.Results.{outer}
use Rattle.flm_forge.proofs.LayoutLemmas.{laid_out}
use Rattle.flm_forge.proofs.EntryLemmas.{entries_even, symbols_fit}
use Rattle.flm_forge.proofs.ReadLemmas.{read_made}

pub forged : (l : Listing) (code : Code) (file : List ℕ) → IsAssembled l.text code → file ≡ file_of l code → end_of (sizes_of l code) < 2 ^ 32
    → ListingFits l → l.zero_len < 2 ^ 32 → IsForged l file
forged l code file assembled is ends fits zero = record {
  code = code;
  assembled = assembled;
  file_is = is;
  fits = omega (arith, ap length is, (laid_out l code).ends, ends);
  read = λ entries readable.
      ap flm_of is
      ∙ read_made l code entries ends (record { listing = fits; zero_len = zero; symbols_fit = symbols_fit l code assembled ends })
      (entries_even l.text code l.hidden entries assembled readable.labelled) readable;
}

abbrev answer : AsmFault → Result (List ℕ) ForgeFault
answer refusal = Err (fault.Asm refusal)

-- the assembler's fault is the one that refuses the text, or out of memory
pub refusal_answered : (l : Listing) (answered : AsmFault) → IsRefused l.text answered → AnswersRefusal l (Err (outer answered))
refusal_answered l asm.OutOfMemory is other memory refused = inr refl
refusal_answered l (asm.BadWord line) is other memory refused =
    inl (ap answer (one_refusal l.text (asm.BadWord line) other (λ e. absurd (cc)) memory is refused))
refusal_answered l (asm.TwiceLabel name) is other memory refused =
    inl (ap answer (one_refusal l.text (asm.TwiceLabel name) other (λ e. absurd (cc)) memory is refused))
refusal_answered l (asm.NoLabel name) is other memory refused =
    inl (ap answer (one_refusal l.text (asm.NoLabel name) other (λ e. absurd (cc)) memory is refused))
refusal_answered l (asm.OutOfReach line) is other memory refused =
    inl (ap answer (one_refusal l.text (asm.OutOfReach line) other (λ e. absurd (cc)) memory is refused))

-- a text that is assembled isn't refused
pub no_refusal : (l : Listing) (code : Code) (file : List ℕ) → IsAssembled l.text code → AnswersRefusal l (Ok file)
no_refusal l code file assembled other memory refused = absurd (refused_or_assembled l.text other code memory refused assembled)
