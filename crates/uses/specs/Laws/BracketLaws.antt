-- Brackets, braces, commas, semicolons and literals by their bytes (02 §1): one law for each way through the code.
use Prim.Native.Nat.{ℕ, zero, suc, ◌+◌, ◌-◌, ◌≤◌}
use native.Mathlib.Omega.{arith}
use Rattle.std.specs.Prelude.{◌≡◌, Bool, List, [], ◌∷◌, length, drop, ltb, Some, None}
use Rattle.std.proofs.Math.Path.{refl, sym, ap}
use Rattle.std.proofs.Common.{◌∙◌, get_or-drop, drop-drop}
use Rattle.std.proofs.Math.Bool.{true, false}
use Rattle.std.proofs.Math.Option.{some}
use Rattle.std.proofs.Math.ListN.{get_or}
use borrow.Author.Tests.{ne_eqb}
use Rattle.tokens.specs.Tokens.{Polarity}
use Rattle.tokens.specs.Scanning.{polarity}
use Rattle.syntax.specs.Syntax.{Literal.int_literal, Literal.nat_literal}
use Rattle.program.specs.Tree.{Expr.int_lit, Expr.nat_lit}
use Rattle.types.specs.Values.{in_int, int_word}
use Rattle.meaning.specs.Values.{signed, decimal}
use Rattle.types.specs.Limits.{nat_end}
use Rattle.meaning.specs.Meant.{then, provided, literal_meaning}
use Rattle.text_shape.specs.Roles.{Part.brackets_open, Part.brackets_close, Part.args_open, Part.args_close, Part.no_args_close, Part.pars_open}
use Rattle.text_shape.specs.Roles.{Part.pars_close}
use Rattle.text_shape.specs.Roles.{Part.fix_open, Part.fix_close, Part.steps_open, Part.steps_close, Part.body_open, Part.body_close, Part.then_open}
use Rattle.text_shape.specs.Roles.{Part.then_close, Part.par_comma, Part.arg_comma, Part.barrier_sign}
use Rattle.resolve.specs.Digits.{digits_of, word_of, nat_at, int_at}
use Rattle.resolve.specs.Using.{Use, live, chosen, use_goes, use_closes, use_dies, use_opens, use_part, use_token}
use Rattle.resolve.specs.UsingAt.{part_at, use_kind}
use Rattle.uses.specs.Lent.{use_in, Roomy, passed_in, Next}
use Rattle.uses.specs.Seeing.{lived, word_passed}
use Rattle.uses.specs.Laws.StackLaws.{next_stop, next_same}
use Rattle.uses.specs.declared.Scope.{Scope}
use Rattle.text_shape.specs.RoleNames.{args_close_role, no_args_close_role, body_close_role, then_open_role, then_close_role, arg_comma_role}
use Rattle.text_shape.specs.RoleNames.{first_part_role}
use Rattle.tokens.specs.KindNames.{semicolon_kind, int_kind, nat_kind}
use Rattle.uses.specs.Passed.{Word, onward}

-- By their bytes ---------------------------------------------------------------------------------

module _ (c : ℕ) (u : Use) where
  pub part_args : c ≡ args_close_role → use_closes 1 u u.dues ≡ use_part (part_at c) u
  unfolding use_part part_at
  part_args e = rw e refl

  pub part_no_args : c ≡ no_args_close_role → use_closes 0 u u.dues ≡ use_part (part_at c) u
  unfolding use_part part_at
  part_no_args e = rw e refl

  pub part_body : c ≡ body_close_role → some (live u [] [] [] 0 [] []) ≡ use_part (part_at c) u
  unfolding use_part part_at
  part_body e = rw e refl

  pub part_if : c ≡ then_open_role → some (use_opens u) ≡ use_part (part_at c) u
  unfolding use_part part_at
  part_if e = rw e refl

  pub part_end_if : c ≡ then_close_role → use_dies u u.heights ≡ use_part (part_at c) u
  unfolding use_part part_at
  part_end_if e = rw e refl

  pub part_comma : c ≡ arg_comma_role → use_goes u u.dues ≡ use_part (part_at c) u
  unfolding use_part part_at
  part_comma e = rw e refl

-- the other parts, six at a time
six : {m n : ℕ} → m ≡ n → suc (suc (suc (suc (suc (suc m))))) ≡ suc (suc (suc (suc (suc (suc n)))))
six e = ap (λ z. suc (suc (suc (suc (suc (suc z)))))) e

module _ (u : Use) where
  from_twelve : (n : ℕ) → (n ≡ 0 → ⊥) → (n ≡ 1 → ⊥) → (n ≡ 2 → ⊥) → (n ≡ 4 → ⊥)
      → use_part (get_or (body_close ∷ then_open ∷ then_close ∷ par_comma ∷ arg_comma ∷ barrier_sign ∷ []) n brackets_open) u ≡ some u
  unfolding use_part
  from_twelve zero h i j k = absurd (h refl)
  from_twelve (suc zero) h i j k = absurd (i refl)
  from_twelve (suc (suc zero)) h i j k = absurd (j refl)
  from_twelve (suc (suc (suc zero))) h i j k = refl
  from_twelve (suc (suc (suc (suc zero)))) h i j k = absurd (k refl)
  from_twelve (suc (suc (suc (suc (suc zero))))) h i j k = refl
  from_twelve (suc (suc (suc (suc (suc (suc n)))))) h i j k = refl

  from_six : (n : ℕ) → (n ≡ 6 → ⊥) → (n ≡ 7 → ⊥) → (n ≡ 8 → ⊥) → (n ≡ 10 → ⊥)
      → use_part (get_or (pars_close ∷ fix_open ∷ fix_close ∷ steps_open ∷ steps_close ∷ body_open ∷ body_close ∷ then_open ∷ then_close ∷ par_comma ∷
      arg_comma ∷ barrier_sign ∷ []) n brackets_open) u ≡ some u
  unfolding use_part
  from_six zero h i j k = refl
  from_six (suc zero) h i j k = refl
  from_six (suc (suc zero)) h i j k = refl
  from_six (suc (suc (suc zero))) h i j k = refl
  from_six (suc (suc (suc (suc zero)))) h i j k = refl
  from_six (suc (suc (suc (suc (suc zero))))) h i j k = refl
  from_six (suc (suc (suc (suc (suc (suc n)))))) h i j k =
      from_twelve n (λ e. h (six e)) (λ e. i (six e)) (λ e. j (six e)) (λ e. k (six e))

  from_none : (n : ℕ) → (n ≡ 3 → ⊥) → (n ≡ 4 → ⊥) → (n ≡ 12 → ⊥) → (n ≡ 13 → ⊥) → (n ≡ 14 → ⊥) → (n ≡ 16 → ⊥)
      → use_part (get_or (brackets_open ∷ brackets_close ∷ args_open ∷ args_close ∷ no_args_close ∷ pars_open ∷ pars_close ∷ fix_open ∷ fix_close ∷ steps_open
      ∷ steps_close ∷ body_open ∷ body_close ∷ then_open ∷ then_close ∷ par_comma ∷ arg_comma ∷ barrier_sign ∷ []) n brackets_open) u ≡ some u
  unfolding use_part
  from_none zero h i j k p q = refl
  from_none (suc zero) h i j k p q = refl
  from_none (suc (suc zero)) h i j k p q = refl
  from_none (suc (suc (suc zero))) h i j k p q = absurd (h refl)
  from_none (suc (suc (suc (suc zero)))) h i j k p q = absurd (i refl)
  from_none (suc (suc (suc (suc (suc zero))))) h i j k p q = refl
  from_none (suc (suc (suc (suc (suc (suc n)))))) h i j k p q =
      from_six n (λ e. j (six e)) (λ e. k (six e)) (λ e. p (six e)) (λ e. q (six e))

  pub part_quiet : (c : ℕ) → first_part_role ≤ c → (c ≡ args_close_role → ⊥) → (c ≡ no_args_close_role → ⊥) → (c ≡ body_close_role → ⊥)
      → (c ≡ then_open_role → ⊥) → (c ≡ then_close_role → ⊥) → (c ≡ arg_comma_role → ⊥) → some u ≡ use_part (part_at c) u
  unfolding part_at
  part_quiet c le h i j k p q =
      sym
      (from_none (c - first_part_role) (λ e. h (back c 3 le e)) (λ e. i (back c 4 le e)) (λ e. j (back c 12 le e)) (λ e. k (back c 13 le e))
      (λ e. p (back c 14 le e)) (λ e. q (back c 16 le e)))
    where
      back : (c n : ℕ) → first_part_role ≤ c → c - first_part_role ≡ n → c ≡ first_part_role + n
      back c n h e = omega (arith, h, e)

-- behind a step's body nothing is alive
pub body_shut : (x l k o : List ℕ) (c : Scope) → passed_in x l k (onward (lived c 0 0 0)) o ≡ some (live (use_in x l k c o) [] [] [] 0 [] [])
unfolding passed_in use_in live lived
body_shut x l k o c = let e : length k - (length k - 0) ≡ 0 = omega arith in let f : length k - 0 ≡ length k = omega arith in rw (e) refl

-- Tokens -----------------------------------------------------------------------------------------

module _ (x l k o : List ℕ) (c : Scope) where
  abbrev used : Use
  used = use_in x l k c o

  int_if : (t : Bool) (n : ℕ)
      → passed_in x l k (word_passed (word_of (provided t (some (int_lit n)))) c) o ≡ then (provided t (some (int_lit n))) (λ z. some used)
  unfolding passed_in word_passed word_of provided then
  int_if true n = refl
  int_if false n = refl

  nat_if : (t : Bool) (n : ℕ)
      → passed_in x l k (word_passed (word_of (provided t (some (nat_lit n)))) c) o ≡ then (provided t (some (nat_lit n))) (λ z. some used)
  unfolding passed_in word_passed word_of provided then
  nat_if true n = refl
  nat_if false n = refl

  int_passed : (p : Polarity) (ds : List ℕ) → passed_in x l k (word_passed (word_of (literal_meaning (int_literal p ds))) c) o
      ≡ then (literal_meaning (int_literal p ds)) (λ z. some used)
  unfolding literal_meaning
  int_passed p ds = int_if (in_int (signed p (decimal ds))) (int_word (signed p (decimal ds)))

  nat_passed : (ds : List ℕ) → passed_in x l k (word_passed (word_of (literal_meaning (nat_literal ds))) c) o
      ≡ then (literal_meaning (nat_literal ds)) (λ z. some used)
  unfolding literal_meaning
  nat_passed ds = nat_if (ltb (decimal ds) nat_end) (decimal ds)

  pub kind_semicolon : (n : ℕ) (s : List ℕ) → n ≡ semicolon_kind → passed_in x l k (onward (lived c c.met c.living c.bodies)) o ≡ use_kind n s used
  unfolding passed_in use_in use_kind chosen use_token live lived
  kind_semicolon n s e = rw e refl

  module _ (at : ℕ) where
    pub kind_int : {w : Word} (n : ℕ) → w ≡ int_at x at → n ≡ int_kind → passed_in x l k (word_passed w c) o ≡ use_kind n (drop at x) used
    unfolding use_kind chosen use_token int_at
    kind_int n e f =
        let i : at + 0 ≡ at = omega arith in
        let p : polarity (get_or x at 0) ≡ polarity (get_or (drop at x) 0 0) =
        ap polarity (ap (λ z. get_or x z 0) (sym i) ∙ sym (get_or-drop at x 0 0)) in
        let d : digits_of (drop (at + 1) x) ≡ digits_of (drop 1 (drop at x)) = ap digits_of (sym (drop-drop 1 at x)) in
        ap (λ w. passed_in x l k (word_passed w c) o) e ∙ int_passed (polarity (get_or x at 0)) (digits_of (drop (at + 1) x))
        ∙ ap (λ q. then (literal_meaning (int_literal q (digits_of (drop (at + 1) x)))) (λ z. some used)) p
        ∙ ap (λ q. then (literal_meaning (int_literal (polarity (get_or (drop at x) 0 0)) q)) (λ z. some used)) d ∙ rw f refl

    pub kind_nat : {w : Word} (n : ℕ) → w ≡ nat_at x at → n ≡ nat_kind → passed_in x l k (word_passed w c) o ≡ use_kind n (drop at x) used
    unfolding use_kind chosen use_token nat_at
    kind_nat n e f = ap (λ w. passed_in x l k (word_passed w c) o) e ∙ nat_passed (digits_of (drop at x)) ∙ rw f refl

  pub kind_quiet : (n : ℕ) (s : List ℕ) → (n ≡ semicolon_kind → ⊥) → (n ≡ int_kind → ⊥) → (n ≡ nat_kind → ⊥) → passed_in x l k (onward c) o ≡ use_kind n s used
  unfolding passed_in use_kind chosen
  kind_quiet n s f g h = rw (ne_eqb n semicolon_kind f, ne_eqb n int_kind g, ne_eqb n nat_kind h) refl

-- by a literal's word there is room
pub next_word : (t l : List ℕ) (c : Scope) → Roomy t l c → (w : Word) → Next t l c (word_passed w c)
unfolding word_passed
next_word t l c r (Some n) = next_same t l c r
next_word t l c r None = next_stop t l c r
