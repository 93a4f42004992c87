-- What stages in a row tell of the orders of their refusals joined, and so of every entry (01, 'Numbers from the input'): it stops with a number
-- exactly where that number is foremost, and goes to its end exactly where no condition holds.
use Rattle.std.specs.Prelude.{ℕ, ◌≡◌, refl, ◌↔◌, Bool, ◌∷◌, ◌++◌}
use Rattle.std.proofs.Common.{arith, sym, ap, subst, ◌∙◌}
use Rattle.std.proofs.Math.Option.{Option, none, some}
use Rattle.types.specs.Reflects.{Reflects, Reflects.holds, Reflects.fails}
use Rattle.types.specs.Orders.{Order, NoneOf, Foremost, Tells, Tells.refuses, Tells.passes}
use Rattle.types.proofs.Laws.OrderLaws.{foremost_front, foremost_some, past, past_all, here, tells_number, tells_none}
use Rattle.types.specs.Stages.{Stage, Stage.went, Stage.stopped, on, asked, given, Went, Stages}

-- Stages in a row ----------------------------------------------------------------------

-- a test whose condition is decided stands in front
pub stage_asked : {A : Type 0} {D : A → Type 0} {l : Order} {s : Stage A} {C : Type 0} {b : Bool} (n : ℕ) → Reflects C b → ((C → ⊥) → Stages D l s)
    → Stages D ((n, C) ∷ l) (asked b n s)
unfolding asked
stage_asked n (holds c) t = here refl c
stage_asked n (fails f) t = past f (t f)

-- one stage after another: their orders joined
pub stage_on : {A B : Type 0} {D : A → Type 0} {E : B → Type 0} {l m : Order} {s : Stage A} {k : A → Stage B} → Stages D l s
    → ((a : A) → D a → Stages E m (k a)) → Stages E (l ++ m) (on s k)
unfolding on
stage_on {m} {k} (refuses {n = n} e q) t = rw e (refuses refl (foremost_front m q))
stage_on {l} (passes f (a, e, d)) t = rw e (past_all l f (t a d))

-- a value that may lack stands in front, where it lacks exactly if the condition holds
pub stage_given : {A B : Type 0} {E : B → Type 0} {l : Order} {C : Type 0} {k : A → Stage B} (n : ℕ) (o : Option A) → (o ≡ none → C)
    → ((a : A) → o ≡ some a → C → ⊥) → ((a : A) → o ≡ some a → Stages E l (k a)) → Stages E ((n, C) ∷ l) (on (given o n) k)
unfolding on given
stage_given {E} {l} {C} {k} n o lacks has t = go o refl
  where
    go : (q : Option _) → o ≡ q → Stages E ((n, C) ∷ l) (on (given q n) k)
    go none e = here refl (lacks e)
    go (some a) e = past (has a e) (t a e)

-- what goes on alike comes to the same
pub on_same : {A B : Type 0} (s : Stage A) {k m : A → Stage B} → ((a : A) → k a ≡ m a) → on s k ≡ on s m
unfolding on
on_same (went a) h = h a
on_same (stopped n) h = refl

-- what goes on with its own value is as it was
pub on_went : {A : Type 0} (s : Stage A) → on s went ≡ s
unfolding on
on_went (went a) = refl
on_went (stopped n) = refl

-- Any entry ------------------------------------------------------------------------------

module _ {A : Type 0} {D : A → Type 0} {l : Order} {s : Stage A} (t : Stages D l s) where
  stopped_same : (n m : ℕ) → ◌≡◌ {A = Stage A} (stopped n) (stopped m) → n ≡ m
  stopped_same n m e = cc

  stopped_apart : (n : ℕ) → Went D (stopped n) → ⊥
  stopped_apart n d = let e = d.1 in let z : ◌≡◌ {A = ℕ} 0 1 = cc in omega arith

  -- it stops with a number exactly where that number is foremost of those whose condition holds
  pub stage_number : (n : ℕ) → (s ≡ stopped n) ↔ Foremost l n
  stage_number = tells_number stopped_same stopped_apart t

  -- it goes to its end exactly where none holds
  pub stage_none : Went D s ↔ NoneOf l
  stage_none = tells_none stopped_same stopped_apart t

  -- where it went to its end with a, none holds and D holds of a
  pub stage_past : (a : A) → s ≡ went a → (NoneOf l) × D a
  stage_past a = go t
    where
      go : Stages D l s → s ≡ went a → (NoneOf l) × D a
      go (refuses d q) e = let z : ◌≡◌ {A = ℕ} 0 1 = cc in absurd (omega arith)
      go (passes f (b, e, d)) g = let q : b ≡ a = cc in (f, rw (← q) d)

  -- so it goes to its end with a exactly where D holds of a, if none holds where D does and D holds of one value
  pub stage_went : ((a : A) → D a → NoneOf l) → ((a b : A) → D a → D b → a ≡ b) → (a : A) → (s ≡ went a) ↔ D a
  stage_went free one a = (λ e. (stage_past a e).1, back t)
    where
      back : Stages D l s → D a → s ≡ went a
      back (refuses e q) d = absurd (foremost_some q (free a d))
      back (passes f (b, e, d)) g = e ∙ ap went (one b a d g)

  -- what is answered of it tells the same, where E holds of the answers to what D holds of
  pub stage_answer : {B : Type 0} {E : B → Type 0} (f : Stage A → B) → ((a : A) → D a → E (f (went a))) → Tells (λ n. f (stopped n)) E l (f s)
  stage_answer {E} f h = go t
    where
      go : Stages D l s → Tells (λ n. f (stopped n)) E l (f s)
      go (refuses e q) = refuses (ap f e) q
      go (passes g (a, e, d)) = passes g (subst E (sym (ap f e)) (h a d))

  -- and a refusal is answered as its number is, whatever is answered
  pub stage_refused : {B : Type 0} (f : Stage A → B) (n : ℕ) → Foremost l n → f s ≡ f (stopped n)
  stage_refused f n q = ap f ((stage_number n).1 q)
