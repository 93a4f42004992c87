-- A text whose tokens and derivation are known is written as its derivation is: one law for the rows that pin texts.
use Rattle.std.specs.Prelude.{ℕ, ◌≡◌, false, List, length, ltb}
use Rattle.std.proofs.Math.Option.{Option, some}
use Rattle.types.specs.Stages.{on, asked, given}
use Rattle.tokens.specs.Tokens.{Token}
use Rattle.tokens.specs.Scanning.{lex}
use Rattle.syntax.specs.Syntax.{Program as Derivation}
use Rattle.syntax.specs.Reading.{read}
use Rattle.source.specs.Source.{max_text}
use Rattle.source.specs.TextReader.{of_derivation, of_tokens, outcome}
use Rattle.source.specs.Streamed.{streamed}

-- from its bytes to its derivation
abbrev pub Reads : List ℕ → List Token → Derivation → Type 0
Reads x ts c = (lex 0 x ≡ some ts) × (read ts ≡ some c)

pub streams : (x out : List ℕ) {ts : List Token} {c : Derivation} {s : Option (List ℕ)} → ltb max_text (length x) ≡ false → Reads x ts c
    → streamed (of_derivation (some c) out) ≡ s → streamed (outcome x out) ≡ s
unfolding outcome of_tokens on asked given
streams x out e r h = rw (e, r.0, r.1) h
