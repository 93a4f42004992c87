-- Each way through the readers of the schedule (01, 'Program stream', and number 7).
use Prim.Native.Nat.{ℕ, zero, suc, ◌+◌, ◌-◌, ◌<◌, ◌≤◌, ◌^◌}
use native.Mathlib.Omega.{arith}
use Rattle.std.proofs.Common.{sub-one, add-one, ◌∙◌}
use Rattle.std.specs.Prelude.{Result as Answered, Ok, Err, ◌≡◌, true, false, List, length, get_or}
use Rattle.std.proofs.Math.Path.{refl, ap, sym}
use Rattle.program.specs.Tree.{Item, Item.call, Item.fix, Items, Items.stop, Items.item}
use Rattle.program.specs.Reader.{Result, Result.ok, Result.bad, then, pair, made, many, opened, counted, lookup, item_sort, ItemSort}
use Rattle.program.specs.Reader.{ItemSort.sort_call, ItemSort.sort_call_in, ItemSort.sort_fix, ItemSort.sort_none, ranged, rule_item, read_item}
use Rattle.program.specs.Reader.{read_items}
use Rattle.program.proofs.Laws.ItemLaws.{OpensItem, opens_item}
use Rattle.directory.specs.declared.Row.{Row}
use Rattle.directory.specs.Directory.{there}
use Rattle.judge.specs.Facts.{named}
use Rattle.judge.specs.ProgramFacts.{Planned as Plan, plan, had, joined, item_plan, items_plan}
use Rattle.judge.proofs.Laws.FollowLaws.{joined_assoc, none_joined, joined_none}
use Rattle.answers.specs.Answers.{Answer, answer}
use Rattle.answers.specs.AnswerLaws.{ok_parts, row_none, row_stop, row_more}
use Rattle.read_schedule.specs.declared.Planned.{Planned}
use Rattle.read_exprs.specs.Told.{byte_told}
use Rattle.read_exprs.specs.ByteWays.{byte_is, byte_stops, byte_in, byte_out}
use Rattle.read_schedule.specs.PlanTold.{planned, plan_of, plan_read, told, after, fixed, read_call_in, Span, Room}

-- among the structs from struct k on: none is left, the first has the step, it has not
module _ (rs : List Row) (n k c : ℕ) where
  pub had_none : c ≤ k → had rs n k (c - k) ≡ false
  unfolding had
  had_none h = let z : c - k ≡ 0 = omega arith in rw z

  pub had_here : k < c → there rs k n ≡ true → had rs n k (c - k) ≡ true
  unfolding had
  had_here h e = let s : c - k ≡ suc (c - suc k) = omega arith in rw s (rw (had, e))

  pub had_on : k < c → there rs k n ≡ false → had rs n k (c - k) ≡ had rs n (k + 1) (c - (k + 1))
  unfolding had
  had_on h e = let s : c - k ≡ suc (c - (k + 1)) = omega arith in rw (s, add-one) (rw (had, e))

-- what was answered, from the enum that holds it
pub plan_value : (x : Answer Plan) (m : ℕ) (p : Planned) → plan_read x ≡ Ok (m, p) → x ≡ Ok (m, plan_of p)
plan_value (Ok (k, q)) m p e =
    let h = ok_parts k m (planned q) p e in
    rw (← h.1, h.0)
plan_value (Err k) m p e = cc

pub plan_refused : (x : Answer Plan) (n : ℕ) → plan_read x ≡ Err n → x ≡ Err n
plan_refused (Ok (k, q)) n e = cc
plan_refused (Err k) n e = cc

module _ (rs : List Row) (S : ℕ) where
  -- a step of every struct: its name is not read, or is
  module _ (s : List ℕ) (at : ℕ) where
    pub call_stop : (e : ℕ) → byte_told (ranged s 0 32 at) ≡ Err e → told (item_plan rs S) (made call (ranged s 0 32 at)) ≡ Err e
    unfolding made then
    call_stop e p = rw (byte_stops (ranged s 0 32 at) e p).1

    pub call_read : (n m : ℕ) → byte_told (ranged s 0 32 at) ≡ Ok (n, m)
        → told (item_plan rs S) (made call (ranged s 0 32 at)) ≡ Ok (m, planned (plan 1 (named (had rs n 0 S))))
    unfolding made then item_plan
    call_read n m p = rw (byte_is (ranged s 0 32 at) n m p)

    -- a step of one struct: the struct is not read, or is and its name is not, or both are
    pub call_in_stop : (e : ℕ) → byte_told (ranged s 0 S at) ≡ Err e → told (item_plan rs S) (read_call_in s S at) ≡ Err e
    unfolding read_call_in made pair then
    call_in_stop e p = rw (byte_stops (ranged s 0 S at) e p).1

    pub call_in_cut : (k m e : ℕ) → byte_told (ranged s 0 S at) ≡ Ok (k, m) → byte_told (ranged s 0 32 m) ≡ Err e
        → told (item_plan rs S) (read_call_in s S at) ≡ Err e
    unfolding read_call_in made pair then
    call_in_cut k m e p q = rw (byte_is (ranged s 0 S at) k m p, (byte_stops (ranged s 0 32 m) e q).1)

    pub call_in_read : (k m n i : ℕ) → byte_told (ranged s 0 S at) ≡ Ok (k, m) → byte_told (ranged s 0 32 m) ≡ Ok (n, i)
        → told (item_plan rs S) (read_call_in s S at) ≡ Ok (i, planned (plan 1 (named (there rs k n))))
    unfolding read_call_in made pair then item_plan
    call_in_read k m n i p q = rw (byte_is (ranged s 0 S at) k m p, byte_is (ranged s 0 32 m) n i q)

  -- what is planned of a Fix, from what is planned of its items
  pub fix_around : (r : Result Items) → told (item_plan rs S) (made fix r) ≡ after fixed (told (items_plan rs S) r)
  unfolding made then item_plan fixed
  fix_around (ok is m) = refl
  fix_around (bad p n) = refl

  -- items in a row, each read by r, behind those of which p is planned: none yet; none left; the next is not read; it is
  module _ (r : ℕ → Result Item) where
    abbrev pub row : Plan → ℕ → ℕ → Answer Plan
    row p n at = answer (λ is. joined p (items_plan rs S is)) (many stop item r n at)

    goes : (p : Plan) (i : Item) (is : Items) → joined p (items_plan rs S (item i is)) ≡ joined (joined p (item_plan rs S i)) (items_plan rs S is)
    unfolding items_plan
    goes p i is = sym (joined_assoc p (item_plan rs S i) (items_plan rs S is))

    pub row_begins : (n at : ℕ) → row (plan 0 0) n at ≡ answer (items_plan rs S) (many stop item r n at)
    row_begins n at = go (many stop item r n at)
      where
        go : (q : Result Items) → answer (λ is. joined (plan 0 0) (items_plan rs S is)) q ≡ answer (items_plan rs S) q
        go (ok is m) = ap (λ t. Ok (m, t)) (none_joined (items_plan rs S is))
        go (bad p k) = refl

    module _ (p : Plan) (n at : ℕ) where
      pub row_ends : n ≡ 0 → row p n at ≡ Ok (at, p)
      unfolding items_plan
      row_ends e = row_none stop item r (λ p. item_plan rs S) joined (λ p is. joined p (items_plan rs S is)) goes p n at e ∙ ap (λ t. Ok (at, t)) (joined_none p)

      pub row_refused : (n ≡ 0 → ⊥) → (e : ℕ) → told (item_plan rs S) (r at) ≡ Err e → row p n at ≡ Err e
      row_refused z e h = row_stop stop item r (λ p. item_plan rs S) joined (λ p is. joined p (items_plan rs S is)) goes p n at z e (plan_refused _ e h)

      pub row_goes : (n ≡ 0 → ⊥) → (m : ℕ) (q : Planned) → told (item_plan rs S) (r at) ≡ Ok (m, q) → row p n at ≡ row (joined p (plan_of q)) (n - 1) m
      row_goes z m q h = row_more stop item r (λ p. item_plan rs S) joined (λ p is. joined p (items_plan rs S is)) goes p n at z m _ (plan_value _ m q h)

-- an item more than those inside
pub fix_value : (n : ℕ) (p : Planned) → ◌≡◌ {A = Answer Planned} (Ok (n, record { count = p.count + 1; fault = p.fault })) (after fixed (Ok (n, p)))
unfolding fixed
fix_value n p = rw add-one

-- the count of the items, which is not read, or is, with them behind it
module _ (ar s : List ℕ) (r : ℕ → Result Item) (at : ℕ) where
  pub items_stop : (f : Items → Plan) (e : ℕ) → byte_told (ranged s 1 33 at) ≡ Err e → told f (read_items ar s r at) ≡ Err e
  unfolding read_items counted then
  items_stop f e p = rw (byte_stops (ranged s 1 33 at) e p).1

  items_more : (n m : ℕ) → byte_told (ranged s 1 33 at) ≡ Ok (n, m) → read_items ar s r at ≡ many stop item r n m
  unfolding read_items counted then
  items_more n m p = rw (byte_is (ranged s 1 33 at) n m p)

  pub items_row : (rs : List Row) (S n m : ℕ) → byte_told (ranged s 1 33 at) ≡ Ok (n, m)
      → plan_read (row rs S r (plan 0 0) n m) ≡ told (items_plan rs S) (read_items ar s r at)
  items_row rs S n m e = ap plan_read (row_begins rs S r n m) ∙ ap (told (items_plan rs S)) (sym (items_more n m e))

-- an item: no byte, a step, a step of a struct, no item, one Fix too many, a Fix
module _ (ar s : List ℕ) (d at : ℕ) where
  pub item_out : length s ≤ at → read_item ar s d at ≡ bad at 4
  unfolding read_item opened then
  item_out h = go d
    where
      go : (d : ℕ) → read_item ar s d at ≡ bad at 4
      go zero = rw (byte_out s at h)
      go (suc d) = rw (byte_out s at h)

  module _ (h : at < length s) where
    pub item_call : get_or s at 0 ≡ 1 → read_item ar s d at ≡ made call (ranged s 0 32 (at + 1))
    unfolding read_item opened then item_sort lookup rule_item
    item_call e = go d
      where
        go : (d : ℕ) → read_item ar s d at ≡ made call (ranged s 0 32 (at + 1))
        go zero = rw (byte_in s at h, e)
        go (suc d) = rw (byte_in s at h, e)

    pub item_call_in : get_or s at 0 ≡ 2 → (S : ℕ) → length ar ≡ S → read_item ar s d at ≡ read_call_in s S (at + 1)
    unfolding read_item opened then item_sort lookup rule_item read_call_in
    item_call_in e S l = go d
      where
        go : (d : ℕ) → read_item ar s d at ≡ read_call_in s S (at + 1)
        go zero = rw (byte_in s at h, e, l)
        go (suc d) = rw (byte_in s at h, e, l)

    pub item_none : (get_or s at 0 ≡ 1 → ⊥) → (get_or s at 0 ≡ 2 → ⊥) → (get_or s at 0 ≡ 3 → ⊥) → read_item ar s d at ≡ bad at 5
    unfolding read_item opened then rule_item
    item_none a b c = go d
      where
        is : (k : ItemSort) → OpensItem (get_or s at 0) k → k ≡ sort_none
        is sort_call e = absurd (a e)
        is sort_call_in e = absurd (b e)
        is sort_fix e = absurd (c e)
        is sort_none e = refl

        none : item_sort (get_or s at 0) ≡ sort_none
        none = is (item_sort (get_or s at 0)) (opens_item (get_or s at 0))

        go : (d : ℕ) → read_item ar s d at ≡ bad at 5
        go zero = rw (byte_in s at h, none)
        go (suc d) = rw (byte_in s at h, none)

    pub item_deep : get_or s at 0 ≡ 3 → d ≡ 0 → read_item ar s d at ≡ bad at 5
    unfolding read_item opened then item_sort lookup rule_item made
    item_deep e z = rw (z, byte_in s at h, e)

    pub item_fix : get_or s at 0 ≡ 3 → (d ≡ 0 → ⊥) → read_item ar s d at ≡ made fix (read_items ar s (read_item ar s (d - 1)) (at + 1))
    unfolding read_item opened then item_sort lookup rule_item
    item_fix e z = go d z
      where
        go : (d : ℕ) → (d ≡ 0 → ⊥) → read_item ar s d at ≡ made fix (read_items ar s (read_item ar s (d - 1)) (at + 1))
        go zero z = absurd (z refl)
        go (suc d) z = rw (byte_in s at h, e, sub-one)

-- Places ------------------------------------------------------------------------------

module _ (s : List ℕ) where
  -- from an earlier place
  pub span_less : {E : Type 0} (lo from lo' from' : ℕ) (r : Answered (ℕ × Planned) E) → lo' ≤ lo → from' ≤ from → Span s lo from r → Span s lo' from' r
  span_less lo from lo' from' (Ok (n, p)) h k x = omega arith
  span_less lo from lo' from' (Err e) h k x = tt

  -- around a Fix
  pub span_fixed : (at : ℕ) (r : Answer Planned) → Span s (at + 1 + 1) (at + 1) r → Span s (at + 1) at (after fixed r)
  unfolding fixed
  span_fixed at (Ok (n, p)) x = omega arith
  span_fixed at (Err e) x = tt

  pub room : {E : Type 0} (lo from : ℕ) (r : Answered (ℕ × Planned) E) → length s < 2 ^ 64 → 1 ≤ from → Span s lo from r → Room r
  room lo from (Ok (n, p)) g h x = omega arith
  room lo from (Err e) g h x = tt

  -- one item more among those in a row
  pub span_joined : (from at m : ℕ) (p q : Planned) → p.count + from ≤ at → Span {E = ℕ} s (at + 1) at (Ok (m, q)) → (joined (plan_of p) (plan_of q)).count + from ≤ m
  unfolding joined
  span_joined from at m p q h x = omega arith
