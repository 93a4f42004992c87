-- Each way through the command that makes an instance, over plain values (01, 'Table and turns', number 34).
use Rattle.std.specs.Prelude.{ℕ, ◌+◌, ◌-◌, ◌*◌, ◌<◌, ◌≤◌, ◌≡◌, List, length, get_or, set, take, drop, Ok, Err, suc}
use Rattle.std.proofs.Math.Numerals.{add-one}
use native.Mathlib.Omega.{arith}
use Rattle.std.proofs.Common.{sym, ◌∙◌, length-drop, length-take-le, ap, get_or-drop}
use Rattle.std.specs.List.{copy_within}
use Rattle.std.proofs.lemmas.List.Edits.{sets, sets-eq}
use Rattle.std.proofs.Math.Seq.{paste}
use borrow.Author.Tests.{lt-ltb, le-ltb}
use Rattle.types.specs.Limits.{max_instances}
use Rattle.layout.specs.Layout.{head_size, row_size, stacked, label_cell, going, new_head}
use Rattle.memory.specs.Act.{made, do_cons}
use Rattle.execute_stack.specs.declared.Actor.{Actor}
use Rattle.types.specs.declared.refusal.Refusal.TheVariants.{Full}
use Rattle.execute_stack.specs.declared.Effect.TheVariants.{Made}
use Rattle.execute_stack.specs.Answers.{seen, Acting, answering, DoesWith}
use Rattle.execute_stack.specs.StackWays.{as_seen}
use Rattle.std.proofs.Math.Seq.{length-sets, paste-suc}
use Rattle.memory.proofs.Laws.RowLaws.{sets_other}

-- The copy of n cells, which lie before the place they go to -----------------------

module _ (c : List ℕ) (from to : ℕ) where
  abbrev pub copied : ℕ → List ℕ
  copied n = sets c to (take n (drop from c))

  module _ (n : ℕ) (before : from + n ≤ to) (within : to + n ≤ length c) where
    copied_length : length (take n (drop from c)) ≡ n
    copied_length =
        let d : length (drop from c) ≡ length c - from = length-drop from c in
        length-take-le n (drop from c) (omega arith)

    copied_paste : copied n ≡ paste c to (drop from c) n
    copied_paste =
        let e : length (take n (drop from c)) ≡ n = copied_length in
        sets-eq (take n (drop from c)) c to (omega arith) ∙ rw e

  -- it keeps the length
  pub copied_same : (x : List ℕ) (i : ℕ) → x ≡ copied i → length x ≡ length c
  copied_same x i e = ap length e ∙ length-sets c to (take i (drop from c))

  -- one cell more
  pub copied_more : (x : List ℕ) (n i : ℕ) → x ≡ copied i → from + n ≤ to → to + n ≤ length c → i < n
      → set x (to + i) (get_or x (from + i) 0) ≡ copied (i + 1)
  copied_more x n i y b w h =
      let d : length (drop from c) ≡ length c - from = length-drop from c in
      let t : length (take i (drop from c)) ≡ i = copied_length i (omega arith) (omega arith) in
      let e : get_or (copied i) (from + i) 0 ≡ get_or (drop from c) i 0 =
      sets_other c to (take i (drop from c)) (from + i) (λ p q. omega arith) ∙ sym (get_or-drop from c i 0) in
      rw (y, e, add-one i)
      (ap (λ (x : List ℕ). set x (to + i) (get_or (drop from c) i 0)) (copied_paste i (omega arith) (omega arith))
      ∙ paste-suc c to (drop from c) i 0 (omega arith) (omega arith)
      ∙ sym (copied_paste (suc i) (omega arith) (omega arith)))

  -- the library's copy within a slice
  pub copied_within : (n e : ℕ) → e ≡ from + n → from + n ≤ to → to + n ≤ length c → copy_within c from e to ≡ copied n
  copied_within n e q b w =
      let d : e - from ≡ n = omega arith in
      rw (copy_within, d) (sym (copied_paste n b w))

pub full_way : (counts h c : List ℕ) (l n k : ℕ) → max_instances ≤ n → DoesWith n (λ z. do_cons counts l z k) (Err Full) h c h c
unfolding do_cons answering
full_way counts h c l n k b z e =
    let m : max_instances ≤ z.machine.count = omega arith in
    rw (do_cons, le-ltb z.machine.count max_instances m)

-- The new instance -------------------------------------------------------------------

-- how many values stay beneath those that it takes
abbrev low : List ℕ → ℕ → Actor → ℕ
low counts k a = a.height - get_or counts k 0

-- what the code leaves: the parameters copied, the numbers written, the label put on top
pub record Making (counts h c : List ℕ) (a : Actor) (n k : ℕ) (h₁ c₁ : List ℕ) (w : ℕ) (h' c' : List ℕ) : Type 0 where
  pub copy : c₁ ≡ sets c (row_size * n) (take (get_or counts k 0) (drop (stacked a.label (low counts k a)) c))
  pub seat : h₁ ≡ sets h (head_size * n) (new_head k)
  pub cell : w ≡ label_cell k n
  pub put : (h' ≡ going h₁ a.label (low counts k a + 1) (a.next + 1)) × (c' ≡ set c₁ (stacked a.label (low counts k a)) w)

module _ (counts h c : List ℕ) (n k : ℕ) {h₁ c₁ : List ℕ} {w : ℕ} {h' c' : List ℕ} where
  made_seen : (l : ℕ) → n < max_instances → Making counts h c (seen h l) n k h₁ c₁ w h' c' → DoesWith n (λ z. do_cons counts l z k) (Ok Made) h c h' c'
  unfolding do_cons made answering
  made_seen l b s z e =
      let m : z.machine.count < max_instances = omega arith in
      rw (
        do_cons,
        lt-ltb z.machine.count max_instances m,
        s.put.0,
        s.put.1,
        s.copy,
        s.seat,
        s.cell,
        add-one (low counts k (seen h l)),
        add-one (seen h l).next,
        ← e,
      )

  pub made_way : {a : Actor} → Acting h c a → n < max_instances → Making counts h c a n k h₁ c₁ w h' c'
      → DoesWith n (λ z. do_cons counts a.label z k) (Ok Made) h c h' c'
  made_way {a} g b =
      as_seen g (λ d. Making counts h c d n k h₁ c₁ w h' c' → DoesWith n (λ z. do_cons counts d.label z k) (Ok Made) h c h' c') (made_seen a.label b)
