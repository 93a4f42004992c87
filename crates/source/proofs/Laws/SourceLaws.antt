-- A text is refused with the number of the first condition that holds, and otherwise written as the one program that it is read as.
use Rattle.std.specs.Prelude.{ℕ, ◌*◌, ◌<◌, ◌≤◌, Bool, not, ◌↔◌, ◌⊎◌, List, [], ◌∷◌}
use native.Mathlib.Omega.{arith}
use Rattle.std.proofs.Math.Path.{◌≡◌, refl}
use Rattle.std.proofs.Common.{sym, ap, subst, ◌∙◌, inl}
use Rattle.std.proofs.Math.Bool.{true, false}
use Rattle.std.proofs.Math.Logic.{inr, ⊎_elim}
use Rattle.std.proofs.Math.Option.{Option, none, some}
use Rattle.std.proofs.Math.ListN.{length}
use Rattle.std.proofs.Math.Dec.{ltb}
use borrow.Author.Tests.{ltb-true, ltb-false, le-ltb}
use Rattle.types.specs.Limits.{program_blocks}
use Rattle.types.specs.Numbers.{no_room, no_token, no_derivation, no_program}
use Rattle.types.specs.Reflects.{Reflects, Reflects.holds as so, Reflects.fails as not_so, lt_reflects}
use Rattle.types.specs.Decides.{reflected}
use Rattle.types.specs.Orders.{Order, NoneOf, Foremost, Tells.passes}
use Rattle.types.proofs.Laws.OrderLaws.{at_first, after_first, here, past}
use Rattle.types.specs.Stages.{Stage.went as written, Stage.stopped as refused, on, asked, given, Stages}
use Rattle.types.proofs.Laws.StageLaws.{stage_asked, stage_given, stage_number, stage_none, stage_past}
use Rattle.block.specs.Block.{block_size}
use Rattle.program.specs.Tree.{Program}
use Rattle.program.specs.Encoding.{enc_program}
use Rattle.program.specs.Reader.{Result.ok, read as read_stream}
use Rattle.program.proofs.Laws.ProgramLaws.{program_law}
use Rattle.tokens.specs.Tokens.{Token}
use Rattle.tokens.specs.Lexing.{Lexed}
use Rattle.tokens.specs.Scanning.{lex}
use Rattle.tokens.proofs.Laws.LexingLaws.{lexed_exact, lexed_one, lexed_read}
use Rattle.syntax.specs.Syntax.{Program as Derivation}
use Rattle.syntax.specs.Bracketing.{Derives}
use Rattle.syntax.specs.Reading.{read}
use Rattle.syntax.proofs.Laws.CompleteLaws.{derives_read, derived_exact, one_derivation}
use Rattle.meaning.specs.Means.{Means}
use Rattle.meaning.specs.Meant.{meant}
use Rattle.meaning.proofs.Laws.MeantLaws.{means_exact, means_one}
use Rattle.meaning.proofs.Laws.MeantComplete.{means_meant}
use Rattle.meaning.specs.Holds.{Holds}
use Rattle.meaning.specs.Nesting.{Shallow}
use Rattle.meaning.proofs.Laws.NestingLaws.{counts_split}
use Rattle.meaning.specs.HoldsDecide.{holds}
use Rattle.meaning.proofs.Laws.HoldsDecideLaws.{decides_holds}
use Rattle.source.specs.Source.{max_text, Derived, Reading, NoTokens, NoDerivation, NoProgram, ShortOutput, text_order}
use Rattle.source.specs.Source.{number_of, blocks_of, output_of}
use Rattle.source.specs.TextReader.{of_program, of_derivation, of_tokens, outcome, text_number}
use Rattle.source.specs.TextReader.{text_blocks, text_output}

-- One reading --------------------------------------------------------------------------------

-- a text has one derivation at most, and is read as one program at most
pub derived_one : {x : List ℕ} {c d : Derivation} → Derived x c → Derived x d → c ≡ d
derived_one {c = c} {d = d} a b = one_derivation b.tokens c d (subst (λ ts. Derives ts c) (lexed_one a.lexed b.lexed) a.derives) b.derives

pub one_reading : {x : List ℕ} {p q : Program} → Reading x p → Reading x q → p ≡ q
one_reading {p = p} {q = q} a b = means_one (subst (λ c. Means c p) (derived_one a.derived b.derived) a.means) b.means

-- What an outcome tells ------------------------------------------------------------------------

module _ (x out : List ℕ) where
  -- a program that is read and held
  abbrev Held : Program → Type 0
  Held p = (Reading x p) × (Holds p)

  none_some : {A : Type 0} {a : A} → ◌≡◌ {A = Option A} none (some a) → ⊥
  none_some e = let z : ◌≡◌ {A = ℕ} 0 1 = cc in omega arith

  -- 17 and 13
  abbrev from_17 : Order
  from_17 = (no_program, NoProgram x) ∷ (no_room, ShortOutput out) ∷ []

  tells_program : (c : Derivation) → Derived x c → (o : Option Program) → meant c ≡ o → Stages Held from_17 (of_program o out)
  unfolding of_program on asked given
  tells_program c d none e = here refl (λ p r h. none_some (sym e ∙ means_meant (subst (λ b. Means b p) (derived_one r.derived d) r.means)))
  tells_program c d (some p) e = held (reflected (holds p) (decides_holds p))
    where
      r : Reading x p
      r = record { derivation = c; derived = d; means = (means_exact c p).0 e }

      held : {b : Bool} → Reflects (Holds p) b
          → Stages Held from_17 (asked (not b) no_program (asked (ltb (length out) (block_size * program_blocks)) no_room (written p)))
      held (so h) = past (λ n. n p r h) (stage_asked no_room (lt_reflects (length out) (block_size * program_blocks)) λ f. passes tt (p, refl, (r, h)))
      held (not_so f) = here refl (λ q s h. f (subst Holds (one_reading s r) h))

  -- 16 before them
  tells_derivation : (ts : List Token) → Lexed x ts → Stages Held ((no_derivation, NoDerivation x) ∷ from_17) (of_derivation (read ts) out)
  unfolding of_derivation
  tells_derivation ts l =
      stage_given no_derivation (read ts)
      (λ e c d. none_some (sym e ∙ derives_read ts c (subst (λ us. Derives us c) (lexed_one d.lexed l) d.derives)))
      (λ c e n. n c (derived c e)) (λ c e. tells_program c (derived c e) (meant c) refl)
    where
      derived : (c : Derivation) → read ts ≡ some c → Derived x c
      derived c e = record { tokens = ts; lexed = l; derives = (derived_exact ts c).0 e }

  -- 15 before all
  pub tells : Stages Held (text_order x out) (outcome x out)
  unfolding outcome of_tokens asked
  tells = short (lt_reflects max_text (length x))
    where
      short : {b : Bool} → Reflects (max_text < length x) b
          → Stages Held (text_order x out) (asked b no_token (on (given (lex 0 x) no_token) λ ts. of_derivation (read ts) out))
      short (so h) = here refl (inl h)
      short (not_so s) =
          stage_given no_token (lex 0 x) (λ e. inr (λ ts l. none_some (sym e ∙ lexed_read l)))
          (λ ts e. ⊎_elim (λ h. s h) (λ n. n ts ((lexed_exact x ts).0 e))) (λ ts e. tells_derivation ts ((lexed_exact x ts).0 e))

  -- The statements ------------------------------------------------------------------------------

  -- a text is refused with n exactly where n's condition holds and none before it in 15, 16, 17, 13
  pub text_refused_exactly : (n : ℕ) → (outcome x out ≡ refused n) ↔ Foremost (text_order x out) n
  text_refused_exactly = stage_number tells

  -- otherwise it is written as the one program that it is read as
  pub text_written : (p : Program) → (outcome x out ≡ written p) ↔ ((NoneOf (text_order x out)) × (Reading x p))
  text_written p = (
    λ e. let (f, d) = stage_past tells p e in (f, d.0),
    λ q. let (r, e, d) = (stage_none tells).1 q.0 in e ∙ ap written (one_reading d.0 q.1),
  )

  -- such a program is held
  pub written_held : (p : Program) → outcome x out ≡ written p → Holds p
  written_held p e = (stage_past tells p e).1.1

  -- a refusal answers its number and no blocks, and leaves the output
  pub text_untouched : (n : ℕ) → outcome x out ≡ refused n → (text_number x out ≡ n) × (text_blocks x out ≡ 0) × (text_output x out ≡ out)
  unfolding text_number number_of text_blocks blocks_of text_output output_of
  text_untouched n e = (rw e refl, rw e refl, rw e refl)

  -- the checker reads the stream that is written back as the program, exactly where its nesting keeps to 01's levels
  pub written_read : (p : Program) → outcome x out ≡ written p → (read_stream (enc_program p) ≡ ok p (length (enc_program p))) ↔ Shallow p
  written_read p e = (
    λ q. ((counts_split p).0 ((program_law (enc_program p) p (length (enc_program p))).0 q).0).1,
    λ s. (program_law (enc_program p) p (length (enc_program p))).1 ((counts_split p).1 ((written_held p e).counted, s), refl, refl),
  )

  -- Text free of 15 escapes 16 precisely when the grammar derives it -----------------------------------

  derived_outcome : (c : Derivation) → Derived x c → (NoTokens x → ⊥) → outcome x out ≡ of_program (meant c) out
  unfolding outcome of_tokens of_derivation on asked given
  derived_outcome c d f =
      rw (le-ltb max_text (length x) (short (ltb max_text (length x)) refl), lexed_read d.lexed, derives_read d.tokens c d.derives) refl
    where
      short : (b : Bool) → ltb max_text (length x) ≡ b → length x ≤ max_text
      short true e = absurd (f (inl (ltb-true max_text (length x) e)))
      short false e = ltb-false max_text (length x) e

  never_underived : (o : Option Program) → of_program o out ≡ refused no_derivation → ⊥
  unfolding of_program on asked given
  never_underived none e = let z : ◌≡◌ {A = ℕ} no_program no_derivation = cc in omega arith
  never_underived (some p) e = go (holds p) (ltb (length out) (block_size * program_blocks)) e
    where
      go : (b c : Bool) → asked (not b) no_program (asked c no_room (written p)) ≡ refused no_derivation → ⊥
      go true true e = let z : ◌≡◌ {A = ℕ} no_room no_derivation = cc in omega arith
      go true false e = let z : ◌≡◌ {A = ℕ} 0 1 = cc in omega arith
      go false c e = let z : ◌≡◌ {A = ℕ} no_program no_derivation = cc in omega arith

  -- a text with tokens is derived, or is not
  derivable : (NoTokens x → ⊥) → ((c : Derivation) × Derived x c) ⊎ NoDerivation x
  derivable f = tokens (lex 0 x) refl
    where
      trees : (ts : List Token) → Lexed x ts → (o : Option Derivation) → read ts ≡ o → ((c : Derivation) × Derived x c) ⊎ NoDerivation x
      trees ts l (some c) e = inl (c, record { tokens = ts; lexed = l; derives = (derived_exact ts c).0 e })
      trees ts l none e = inr (λ c d. none_some (sym e ∙ derives_read ts c (subst (λ us. Derives us c) (lexed_one d.lexed l) d.derives)))

      tokens : (o : Option (List Token)) → lex 0 x ≡ o → ((c : Derivation) × Derived x c) ⊎ NoDerivation x
      tokens (some ts) e = trees ts ((lexed_exact x ts).0 e) (read ts) refl
      tokens none e = absurd (f (inr (λ ts l. none_some (sym e ∙ lexed_read l))))

  pub escapes_16 : (NoTokens x → ⊥) → ((outcome x out ≡ refused no_derivation → ⊥) ↔ ((c : Derivation) × Derived x c))
  escapes_16 f = (forth (derivable f), λ q e. never_underived (meant q.0) (sym (derived_outcome q.0 q.1 f) ∙ e))
    where
      forth : ((c : Derivation) × Derived x c) ⊎ NoDerivation x → (outcome x out ≡ refused no_derivation → ⊥) → (c : Derivation) × Derived x c
      forth (inl q) g = q
      forth (inr n) g = absurd (g ((text_refused_exactly no_derivation).1 (after_first f (at_first n))))
