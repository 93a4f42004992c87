-- What stands at each place of the tables, and that the two numbers of an act tell it: one test that is computed over all of them.
use Rattle.std.specs.Prelude.{ℕ, zero, suc, ◌+◌, ◌-◌, ◌<◌, ◌≡◌, refl, Bool, true, false, List, get_or, T, eqb}
use Rattle.std.proofs.Common.{arith, add-zero, zero-add, add-suc, suc-add, le_of_suc-le-suc, not-suc-le-zero, sym, ◌∙◌, eqb-true}
use Rattle.std.proofs.Math.Path.{ap}
use Rattle.std.proofs.Math.ListN.{length}
use Rattle.std.proofs.lemmas.Bool.{eqb-false}
use Rattle.syntax.specs.Expecting.{word_number, sign_number, on_word, on_sign, on_name, on_op, less, on_less, literal_word, on_literal, type_word, on_type_word}
use Rattle.syntax.specs.Expecting.{on_type}
use Rattle.text_shape.specs.Shape.{on_exp, on_item, past_item, acts, act, samples, sample}
use Rattle.derive.specs.Table.{digits_from, entries, act_at, next_of, opened_of, told, values, next_bytes, opened_bytes, mark_at, mark_bytes}
use Rattle.text_shape.specs.declared.Act.{Act}
use Rattle.text_shape.specs.declared.Act.TheVariants.{Go, Open, Below, Stop}

-- Values in a row ----------------------------------------------------------------------------

values_at : (f : ℕ → ℕ) (i n k : ℕ) → k < n → get_or (values f i n) k 0 ≡ f (i + k)
unfolding values
values_at f i zero k h = absurd (not-suc-le-zero h)
values_at f i (suc n) zero h = ap f (sym (add-zero i))
values_at f i (suc n) (suc k) h = values_at f (suc i) n k (le_of_suc-le-suc h) ∙ ap f (suc-add i k ∙ sym (add-suc i k))

values_length : (f : ℕ → ℕ) (i n : ℕ) → length (values f i n) ≡ n
unfolding values
values_length f i zero = refl
values_length f i (suc n) = ap suc (values_length f (suc i) n)

next_byte : (i : ℕ) → i < entries → get_or next_bytes i 0 ≡ digits_from + next_of (act_at i)
unfolding next_bytes
next_byte i h = values_at (λ j. digits_from + next_of (act_at j)) 0 entries i h ∙ ap (λ j. digits_from + next_of (act_at j)) (zero-add i)

opened_byte : (i : ℕ) → i < entries → get_or opened_bytes i 0 ≡ digits_from + opened_of (act_at i)
unfolding opened_bytes
opened_byte i h = values_at (λ j. digits_from + opened_of (act_at j)) 0 entries i h ∙ ap (λ j. digits_from + opened_of (act_at j)) (zero-add i)

mark_byte : (i : ℕ) → i < entries → get_or mark_bytes i 0 ≡ mark_at i
unfolding mark_bytes
mark_byte i h = values_at mark_at 0 entries i h ∙ ap mark_at (zero-add i)

-- of a table that was lent
module _ {t : List ℕ} {i : ℕ} where
  pub next_in : t ≡ next_bytes → i < entries → i < length t
  unfolding next_bytes
  next_in e h = let l = values_length (λ j. digits_from + next_of (act_at j)) 0 entries in omega (arith, ap length e ∙ l)

  pub next_here : t ≡ next_bytes → i < entries → get_or t i 0 ≡ digits_from + next_of (act_at i)
  next_here e h = ap (λ l. get_or l i 0) e ∙ next_byte i h

  pub next_number : {n : ℕ} → t ≡ next_bytes → i < entries → get_or t i 0 ≡ digits_from + n → n ≡ next_of (act_at i)
  next_number e h g = omega (arith, next_here e h, g)

  pub next_less : t ≡ next_bytes → i < entries → get_or t i 0 - digits_from ≡ next_of (act_at i)
  next_less e h = omega (arith, next_here e h)

  pub opened_in : t ≡ opened_bytes → i < entries → i < length t
  unfolding opened_bytes
  opened_in e h = let l = values_length (λ j. digits_from + opened_of (act_at j)) 0 entries in omega (arith, ap length e ∙ l)

  pub opened_here : t ≡ opened_bytes → i < entries → get_or t i 0 ≡ digits_from + opened_of (act_at i)
  opened_here e h = ap (λ l. get_or l i 0) e ∙ opened_byte i h

  pub opened_number : {n : ℕ} → t ≡ opened_bytes → i < entries → get_or t i 0 ≡ digits_from + n → n ≡ opened_of (act_at i)
  opened_number e h g = omega (arith, opened_here e h, g)

  pub opened_less : t ≡ opened_bytes → i < entries → get_or t i 0 - digits_from ≡ opened_of (act_at i)
  opened_less e h = omega (arith, opened_here e h)

  pub mark_in : t ≡ mark_bytes → i < entries → i < length t
  unfolding mark_bytes
  mark_in e h = let l = values_length mark_at 0 entries in omega (arith, ap length e ∙ l)

  pub mark_here : t ≡ mark_bytes → i < entries → get_or t i 0 ≡ mark_at i
  mark_here e h = ap (λ l. get_or l i 0) e ∙ mark_byte i h

-- Two numbers tell an act ---------------------------------------------------------------------------

abbrev both : Bool → Bool → Bool
both true b = b
both false b = false

both_left : (a b : Bool) → T (both a b) → T a
both_left true b t = tt
both_left false b t = t

both_right : (a b : Bool) → T (both a b) → T b
both_right true b t = t
both_right false b t = absurd t

is_true : (b : Bool) → T b → b ≡ true
is_true true t = refl
is_true false t = absurd t

same_act : Act → Act → Bool
same_act (Go q) (Go p) = eqb q p
same_act (Go q) (Open p o) = false
same_act (Go q) Below = false
same_act (Go q) Stop = false
same_act (Open q r) (Go p) = false
same_act (Open q r) (Open p o) = both (eqb q p) (eqb r o)
same_act (Open q r) Below = false
same_act (Open q r) Stop = false
same_act Below (Go p) = false
same_act Below (Open p o) = false
same_act Below Below = true
same_act Below Stop = false
same_act Stop (Go p) = false
same_act Stop (Open p o) = false
same_act Stop Below = false
same_act Stop Stop = true

same_acts : (a b : Act) → T (same_act a b) → a ≡ b
unfolding same_act
same_acts (Go q) (Go p) t = rw (eqb-true q p (is_true (eqb q p) t)) refl
same_acts (Go q) (Open p o) t = absurd t
same_acts (Go q) Below t = absurd t
same_acts (Go q) Stop t = absurd t
same_acts (Open q r) (Go p) t = absurd t
same_acts (Open q r) (Open p o) t =
    rw (eqb-true q p (is_true (eqb q p) (both_left (eqb q p) (eqb r o) t)), eqb-true r o (is_true (eqb r o) (both_right (eqb q p) (eqb r o) t))) refl
same_acts (Open q r) Below t = absurd t
same_acts (Open q r) Stop t = absurd t
same_acts Below (Go p) t = absurd t
same_acts Below (Open p o) t = absurd t
same_acts Below Below t = refl
same_acts Below Stop t = absurd t
same_acts Stop (Go p) t = absurd t
same_acts Stop (Open p o) t = absurd t
same_acts Stop Below t = absurd t
same_acts Stop Stop t = refl

-- a test of each number below n
unfoldable pub each : (ℕ → Bool) → ℕ → Bool
each f zero = true
each f (suc n) = both (f n) (each f n)

pub each_below : (f : ℕ → Bool) (n : ℕ) → T (each f n) → (i : ℕ) → i < n → T (f i)
unfolding each
each_below f zero t i h = absurd (not-suc-le-zero h)
each_below f (suc n) t i h = go (eqb i n) refl (λ l. each_below f n (both_right (f n) (each f n) t) i l)
  where
    go : (b : Bool) → eqb i n ≡ b → (i < n → T (f i)) → T (f i)
    go true e rec = rw (eqb-true i n e) (both_left (f n) (each f n) t)
    go false e rec = rec (let d = eqb-false i n e in omega (arith, d))

tells : ℕ → Bool
tells i = same_act (told (next_of (act_at i)) (opened_of (act_at i))) (act_at i)

all_tell : T (each tells entries)
unfolding each tells same_act told next_of opened_of act_at act acts on_exp on_item past_item samples sample word_number sign_number on_word on_sign on_name
    on_op less on_less literal_word on_literal type_word on_type_word on_type
all_tell = tt

pub entry_told : (i : ℕ) → i < entries → told (next_of (act_at i)) (opened_of (act_at i)) ≡ act_at i
unfolding tells
entry_told i h = same_acts (told (next_of (act_at i)) (opened_of (act_at i))) (act_at i) (each_below tells entries all_tell i h)
