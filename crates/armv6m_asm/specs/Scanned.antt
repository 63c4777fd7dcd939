-- A token as the code holds it.
use Rattle.armv6m_asm.specs.declared.token.Token.{Token as Held}
use Rattle.armv6m_asm.specs.declared.token.Token.TheVariants.{Word, Mark}
use Rattle.armv6m_asm.specs.Token.{Token, word, mark}

abbrev pub token_of : Held → Token
token_of (Word bytes) = word bytes.now
token_of (Mark byte) = mark byte
