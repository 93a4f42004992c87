-- What stands in the places of a text is written as its roles are, where every literal is of its type, which the pass over uses has seen; so that the stream of
-- what the text means is left, its first byte still waiting.
use Rattle.std.specs.Prelude.{ℕ, suc, ◌+◌, ◌<◌, ◌≡◌, Bool, true, false, ◌⊎◌, drop, ltb}
use Rattle.std.proofs.Common.{arith, add-zero, add-one, ◌∙◌, inl, inr, get_or-drop, drop-drop}
use Rattle.std.proofs.Math.Path.{refl, sym, ap}
use mathlib.Core.List.{List, [], ◌∷◌}
use Rattle.std.proofs.Math.Option.{Option, none, some}
use Rattle.std.proofs.Math.ListN.{get_or}
use borrow.Author.Tests.{ne_eqb}
use Rattle.types.specs.Limits.{nat_end}
use Rattle.types.specs.Values.{in_int, int_word}
use Rattle.program.specs.Tree.{Expr.int_lit, Expr.nat_lit, Program}
use Rattle.program.specs.Counts.{All}
use Rattle.tokens.specs.Tokens.{Polarity, Token, Token.word, Token.sign, Token.op, Token.name, Token.int, Token.nat}
use Rattle.tokens.specs.Scanning.{polarity}
use Rattle.syntax.specs.Syntax.{Id, Struct, Program as Derivation}
use Rattle.syntax.specs.Bracketing.{FitsProgram}
use Rattle.tokens.specs.Kinds.{kind}
use Rattle.tokens.proofs.Laws.KindLaws.{word_within, sign_within, op_within, kind_within}
use Rattle.meaning.specs.Values.{decimal, signed}
use Rattle.meaning.specs.Meant.{then, provided, literal_meaning}
use Rattle.meaning.specs.Means.{Means}
use Rattle.text_shape.specs.Roles.{Role, Role.plain, Role.naming, Role.typed, Role.part, naming_code, typed_code, type_number, part_code, code, token_of, roles}
use Rattle.resolve.specs.Digits.{digits_of, word_of, nat_at, int_at}
use Rattle.resolve.specs.Outcomes.{onto}
use Rattle.resolve.specs.Passing.{Pass, pass, pass_token, passes}
use Rattle.resolve.specs.Laws.PlacesLaws.{naming_near}
use Rattle.resolve.specs.Laws.RowLaws.{typed_far, part_far}
use Rattle.resolve.specs.Standing.{Spelt, Stood, Stood.at_end, Stood.no_token, Stood.a_role}
use Rattle.compose.specs.Writing.{Writing, Writing.writing, token_value, value, writes, start}
use Rattle.compose.specs.Checks.{checks, stream_behind, numbers_of}
use Rattle.compose.proofs.Laws.WritingExpLaws.{written, left}
use Rattle.compose.proofs.Laws.WritingLaws.{program_left}
use Rattle.compose.specs.Fits.{word_value, value_at, writes_at}
use Rattle.compose.specs.Standing.{InsideToken, Inside}
use Rattle.tokens.specs.KindNames.{name_kind, int_kind, nat_kind}

-- Every literal that is passed is of its type ---------------------------------------------------------

never : {A : Type 0} {a : A} → ◌≡◌ {A = Option A} none (some a) → ⊥
never e = let z : ◌≡◌ {A = ℕ} 0 1 = cc in omega arith

if_provided : {A B : Type 0} (t : Bool) (o : Option A) (g : A → Option B) {b : B} → then (provided t o) g ≡ some b → t ≡ true
unfolding then provided
if_provided true o g e = refl
if_provided false o g e = absurd (never e)

module _ (ds : List Struct) (names : List Id) where
  token_inside : (t : Token) (p q : Pass) → pass_token ds names t p ≡ some q → InsideToken t
  unfolding pass_token literal_meaning InsideToken
  token_inside (word w) p q e = tt
  token_inside (sign g) p q e = tt
  token_inside (op o) p q e = tt
  token_inside (name x) p q e = tt
  token_inside (int g l) p q e = if_provided (in_int (signed g (decimal l))) (some (int_lit (int_word (signed g (decimal l))))) (λ c. some p) e
  token_inside (nat l) p q e = if_provided (ltb (decimal l) nat_end) (some (nat_lit (decimal l))) (λ c. some p) e

  role_inside : (r : Role) (p q : Pass) → pass ds names r p ≡ some q → Inside r
  unfolding pass Inside
  role_inside (plain t) p q e = token_inside t p q e
  role_inside (naming n x) p q e = tt
  role_inside (typed u t) p q e = tt
  role_inside (part g) p q e = tt

  pub passed_inside : (k : List Role) (p q : Pass) → passes ds names k p ≡ some q → All Inside k
  unfolding passes then
  passed_inside [] p q e = tt
  passed_inside (r ∷ k) p q e = go (pass ds names r p) refl e (λ s g. passed_inside k s q g)
    where
      go : (o : Option Pass) → pass ds names r p ≡ o → then o (passes ds names k) ≡ some q
          → ((s : Pass) → passes ds names k s ≡ some q → All Inside k) → All Inside (r ∷ k)
      go none f g rec = absurd (never g)
      go (some s) f g rec = (role_inside r p s f, rec s g)

-- The number of a literal where it stands -------------------------------------------------------------

module _ (text : List ℕ) (i : ℕ) where
  digits_here : (l : List ℕ) → Spelt (nat l) (drop i text) → ltb (decimal l) nat_end ≡ true → word_value (nat_at text i) ≡ decimal l
  unfolding Spelt nat_at literal_meaning provided word_of word_value
  digits_here l p h = rw (p, h) refl

  signed_here : (g : Polarity) (l : List ℕ) → Spelt (int g l) (drop i text) → in_int (signed g (decimal l)) ≡ true
      → word_value (int_at text i) ≡ int_word (signed g (decimal l))
  unfolding Spelt int_at literal_meaning provided word_of word_value
  signed_here g l p h =
      let first : get_or text i 0 ≡ get_or (drop i text) 0 0 = ap (λ k. get_or text k 0) (sym (add-zero i)) ∙ sym (get_or-drop i text 0 0) in
      let sign : polarity (get_or text i 0) ≡ g = ap polarity first ∙ p.0 in
      let digits : digits_of (drop (i + 1) text) ≡ l = ap digits_of (sym (drop-drop 1 i text)) ∙ p.1 in
      rw (sign, digits, h) refl

  -- any other role has none
  no_value : (c : ℕ) → (c < int_kind) ⊎ (nat_kind < c) → value_at text i c ≡ 0
  unfolding value_at
  no_value c (inl l) = rw (value_at, ne_eqb c int_kind (λ e. omega arith), ne_eqb c nat_kind (λ e. omega arith)) refl
  no_value c (inr l) = rw (value_at, ne_eqb c int_kind (λ e. omega arith), ne_eqb c nat_kind (λ e. omega arith)) refl

  token_here : (t : Token) → Spelt t (drop i text) → InsideToken t → value_at text i (kind t) ≡ token_value t
  unfolding kind token_value InsideToken value_at
  token_here (word w) p h = let b = word_within w in no_value (kind (word w)) (inl (omega (arith, b)))
  token_here (sign g) p h = let b = sign_within g in no_value (kind (sign g)) (inl (omega (arith, b)))
  token_here (op o) p h = let b = op_within o in no_value (kind (op o)) (inl (omega (arith, b)))
  token_here (name x) p h = no_value name_kind (inl (omega arith))
  token_here (int g l) p h = signed_here g l p h
  token_here (nat l) p h = digits_here l p h

  value_here : (r : Role) → Spelt (token_of r) (drop i text) → Inside r → value_at text i (code r) ≡ value r
  unfolding code token_of value Inside
  value_here (plain t) p h = token_here t p h
  value_here (naming n x) p h = no_value (naming_code n) (inr (naming_near n).0)
  value_here (typed u t) p h = no_value (typed_code u + type_number t) (inr (omega (arith, typed_far u)))
  value_here (part g) p h = no_value (part_code g) (inr (omega (arith, part_far g)))

-- Roles in their places ---------------------------------------------------------------------------------

-- no role's byte is 0
code_more : (r : Role) → 0 < code r
unfolding code
code_more (plain t) = (kind_within t).0
code_more (naming n x) = omega (arith, (naming_near n).0)
code_more (typed u t) = omega (arith, typed_far u)
code_more (part g) = omega (arith, part_far g)

behind_place : (x : List ℕ) (i b : ℕ) (s : List ℕ) → drop i x ≡ b ∷ s → drop (suc i) x ≡ s
behind_place x i b s e = ap (λ k. drop k x) (sym (add-one i)) ∙ sym (drop-drop 1 i x) ∙ ap (drop 1) e

pub stood_writes : (text : List ℕ) (z : Writing) {s cs : List ℕ} {rs : List Role} (i : ℕ) → drop i text ≡ s → Stood s cs rs → All Inside rs
    → writes_at text i cs z ≡ writes rs z
unfolding writes_at writes
stood_writes text z i e at_end h = refl
stood_writes text z i e (no_token {b = b} {s = s} st) h = stood_writes text z (suc i) (behind_place text i b s e) st h
stood_writes text z i e (a_role {b = b} {s = s} {cs = cs} {rs = rs} r p st) h =
    let v : value_at text i (code r) ≡ value r = value_here text i r (rw e p) h.0 in
    let rest : writes_at text (suc i) cs z ≡ writes rs z = stood_writes text z (suc i) (behind_place text i b s e) st h.1 in
    rw (writes_at, ne_eqb (code r) 0 (λ f. omega (arith, code_more r)), v, rest) refl

-- The stream ----------------------------------------------------------------------------------------------

pub record WritesText (text cs : List ℕ) (p : Program) : Type 0 where
  pub count : ℕ
  pub bytes : List ℕ
  pub all : writes_at text 0 cs (start (onto (numbers_of p) [])) ≡ writing bytes (count ∷ []) [] 0 (checks p)
  pub are : count ∷ bytes ≡ stream_behind p

-- from the numbers of what a text means, the last one first
pub text_writes : (text cs : List ℕ) (c : Derivation) → FitsProgram c → {p : Program} → Means c p → Stood text cs (roles c) → All Inside (roles c)
    → WritesText text cs p
unfolding written
text_writes text cs c f {p} m st h =
    let w = program_left c f m in
    let stood : writes_at text 0 cs (start (onto (numbers_of p) [])) ≡ writes (roles c) (start (onto (numbers_of p) [])) =
    stood_writes text (start (onto (numbers_of p) [])) 0 refl st h in
    record { count = w.count; bytes = w.bytes; all = stood ∙ left w.all; are = w.are }
