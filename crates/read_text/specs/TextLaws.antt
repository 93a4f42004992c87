-- 15 and 16 (02 §1): a text that is too long, that does not part into tokens, or whose tokens no derivation yields is refused so; else its roles stand in it.
use Rattle.std.specs.Prelude.{ℕ, ◌<◌, ◌≤◌, ◌≡◌, true, List, [], map, length}
use Rattle.std.proofs.Common.{arith, sym, subst, ◌∙◌, lt-ltb, le-ltb}
use Rattle.std.proofs.Math.Path.{refl, ap}
use Rattle.std.proofs.Math.Bool.{false}
use Rattle.std.proofs.lemmas.Bool.{false≢true}
use Rattle.std.proofs.Math.Option.{Option, none, some}
use Rattle.std.proofs.lemmas.List.Edits.{sets}
use Rattle.types.specs.Numbers.{no_token, no_derivation}
use Rattle.types.specs.Stages.{Stage.stopped as refused, on, asked, given}
use Rattle.types.proofs.Laws.ListLaws.{sets_whole}
use Rattle.tokens.specs.Tokens.{Token}
use Rattle.tokens.specs.Scanning.{lex}
use Rattle.syntax.specs.Syntax.{Program as Derivation}
use Rattle.syntax.specs.Bracketing.{Derives}
use Rattle.syntax.specs.Reading.{read}
use Rattle.syntax.proofs.Laws.CompleteLaws.{derives_read, derived_exact}
use Rattle.meaning.specs.Meant.{meant}
use Rattle.tokens.specs.Kinds.{kind}
use Rattle.tokens.specs.Marking.{marks, found, parts, kinds_in}
use Rattle.tokens.proofs.Laws.MarkingLaws.{marks_tell}
use Rattle.text_shape.specs.Shape.{Shape.shape, derived}
use Rattle.text_shape.proofs.Laws.KindShapeLaws.{derived_derives}
use Rattle.text_shape.specs.RoleMarks.{role_codes, placed}
use Rattle.text_shape.proofs.Laws.RoleMarkLaws.{text_roles}
use Rattle.text_shape.specs.Roles.{code, roles}
use Rattle.resolve.specs.Standing.{Stood}
use Rattle.resolve.specs.Laws.StandingLaws.{derivation_stands}
use Rattle.source.specs.Source.{max_text}
use Rattle.source.specs.TextReader.{of_program, of_derivation, of_tokens, outcome}
use Rattle.read_text.specs.Roled.{Roled}
use Rattle.text_shape.specs.CodeNames.{first_defs_code}

module _ (x out : List ℕ) where
  pub too_long : max_text < length x → outcome x out ≡ refused no_token
  unfolding outcome asked
  too_long h = rw (lt-ltb max_text (length x) h, asked) refl

  pub not_long : length x ≤ max_text → outcome x out ≡ of_tokens (lex 0 x) out
  unfolding outcome asked
  not_long h = rw (le-ltb max_text (length x) h, asked) refl

  pub no_parts : false ≡ parts x → of_tokens (lex 0 x) out ≡ refused no_token
  unfolding found of_tokens on given
  no_parts e = go (lex 0 x) e
    where
      go : (o : Option (List Token)) → false ≡ found o → of_tokens o out ≡ refused no_token
      go none e = refl
      go (some ts) e = absurd (false≢true e)

-- a text that parts into tokens
parted : (x : List ℕ) → true ≡ parts x → (ts : List Token) × (lex 0 x ≡ some ts)
unfolding found
parted x e = go (lex 0 x) refl e
  where
    go : (o : Option (List Token)) → lex 0 x ≡ o → true ≡ found o → (ts : List Token) × (lex 0 x ≡ some ts)
    go none f e = absurd (false≢true (sym e))
    go (some ts) f e = (ts, f)

-- the kinds of its tokens in their places, in lent memory
module _ (x ks₀ ks : List ℕ) (long : length ks₀ ≡ length x) (p : true ≡ parts x) (e : ks ≡ sets ks₀ 0 (marks x)) where
  tokens : List Token
  tokens = (parted x p).0

  lexed : lex 0 x ≡ some tokens
  unfolding tokens
  lexed = (parted x p).1

  marks_are : ks ≡ marks x
  marks_are = let h = (marks_tell x tokens lexed).1 in e ∙ sets_whole ks₀ (marks x) (omega arith)

  kinds_are : kinds_in ks ≡ map kind tokens
  kinds_are = ap kinds_in marks_are ∙ (marks_tell x tokens lexed).0

  pub underived : false ≡ derived (kinds_in ks) → (out : List ℕ) → of_tokens (lex 0 x) out ≡ refused no_derivation
  unfolding of_tokens of_derivation on given
  underived f out = rw (lexed, of_tokens) (go (read tokens) refl)
    where
      go : (o : Option Derivation) → read tokens ≡ o → of_derivation o out ≡ refused no_derivation
      go none g = refl
      go (some c) g = absurd (false≢true (f ∙ ap derived kinds_are ∙ (derived_derives tokens).1 (c, (derived_exact tokens c).0 g)))

  module _ (cs : List ℕ) (f : cs ≡ placed ks (role_codes (shape first_defs_code []) (kinds_in ks))) (d : true ≡ derived (kinds_in ks)) where
    derives : (c : Derivation) × Derives tokens c
    derives = (derived_derives tokens).0 (ap derived (sym kinds_are) ∙ sym d)

    pub roled : Roled x cs
    roled =
        let c = derives.0 in
        let g : cs ≡ placed (marks x) (role_codes (shape first_defs_code []) (kinds_in (marks x))) =
        f ∙ ap (λ l. placed l (role_codes (shape first_defs_code []) (kinds_in l))) marks_are in
        let h : cs ≡ placed (marks x) (map code (roles c)) = g ∙ text_roles x tokens c lexed derives.1 in
        record {
          derivation = c;
          fits = derives.1.fits;
          stands = subst (λ l. Stood x l (roles c)) (sym h) (derivation_stands x tokens c lexed derives.1);
        }

    pub roled_reads : (out : List ℕ) → of_tokens (lex 0 x) out ≡ of_program (meant roled.derivation) out
    unfolding of_tokens of_derivation on given roled
    roled_reads out = rw (lexed, of_tokens, derives_read tokens derives.0 derives.1) refl
