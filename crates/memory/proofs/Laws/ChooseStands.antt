-- Memory that holds a machine has its holders, and a turn byte picks the same one of them (01, 'Table and turns'; 02, 'Turns that go round').
use Prim.Native.Nat.{ℕ, zero, suc, ◌+◌, ◌-◌, ◌<◌, ◌≤◌}
use Rattle.std.specs.Prelude.{◌≡◌, Bool, get_or, take, drop, ltb}
use Rattle.std.proofs.Math.Path.{refl, ap}
use Rattle.std.proofs.Common.{sym, ◌∙◌, length-take, length-drop, lt-ltb, le-ltb}
use Rattle.std.proofs.Math.Bool.{true, false}
use Rattle.std.proofs.Math.Option.{some}
use mathlib.Core.List.{List, [], ◌∷◌, map}
use native.Mathlib.Omega.{arith}
use Rattle.std.proofs.Math.ListN.{length, get_elem?}
use Rattle.std.proofs.lemmas.List.{length-map}
use Rattle.commands.specs.Noted.{Note, erase}
use Rattle.commands.specs.Coding.{words, command_word}
use Rattle.machine.specs.Published.{Sched}
use Rattle.machine.specs.Machine.{Instance, Machine}
use Rattle.run.specs.Turns.{labels_from, round_from, chosen}
use Rattle.run.specs.Holders.{holds_code, flag, flags as flags_of, holders}
use Rattle.run.proofs.Laws.RoundLaws.{round_length}
use Rattle.layout.specs.Layout.{next_of, end_of, holds}
use Rattle.layout.specs.State.{State, of_head}
use Rattle.memory.specs.Stands.{note_words, Held, Stands}
use Rattle.memory.specs.Choose.{holding, flags, picked}

words_length : (c : List Note) → length (note_words c) ≡ length c
unfolding words
words_length c = length-map (map erase c) command_word ∙ length-map c erase

-- the part of a list between two numbers is as long as they are apart
part_length : (list : List ℕ) (n e : ℕ) → e ≤ length list → length (take (e - n) (drop n list)) ≡ e - n
part_length list n e h = length-take (e - n) (drop n list) ∙ (rw (length-drop n list) (omega arith))

apart : (n e : ℕ) (c : List Note) → e - n ≡ length c → ltb n e ≡ holds_code c
unfolding holds_code
apart n e [] q = le-ltb n e (omega arith)
apart n e (x ∷ c) q = lt-ltb n e (omega arith)

-- an instance holds commands on memory exactly where it does in the machine
pub holds_same : {list : List ℕ} {z : State} {l : ℕ} {i : Instance} → Held list z l i → holds z.heads l ≡ holds_code i.code
holds_same {list} {z} {l} {i} H =
    apart (of_head z l next_of) (of_head z l end_of) i.code
    (sym (part_length list (of_head z l next_of) (of_head z l end_of) H.within) ∙ ap length H.code ∙ words_length i.code)

-- no more hold commands than there are
pub holding_few : (heads : List ℕ) (l n : ℕ) → holding heads l n ≤ n
unfolding holding
holding_few heads l zero = omega arith
holding_few heads l (suc n) = go (holds heads l) (holding_few heads (suc l) n)
  where
    go : (t : Bool) → holding heads (suc l) n ≤ n → elim t [ true ↦ suc (holding heads (suc l) n) | false ↦ holding heads (suc l) n ] ≤ suc n
    go true h = omega arith
    go false h = omega arith

module _ (heads : List ℕ) where
  -- as many as are listed
  pub holding_labels : (l n : ℕ) → holding heads l n ≡ length (labels_from l (flags heads l n))
  unfolding holding flags labels_from
  holding_labels l zero = refl
  holding_labels l (suc n) = go (holds heads l) (holding_labels (suc l) n)
    where
      go : (t : Bool) → holding heads (suc l) n ≡ length (labels_from (suc l) (flags heads (suc l) n))
          → elim t [ true ↦ suc (holding heads (suc l) n) | false ↦ holding heads (suc l) n ] ≡ length (labels_from l (t ∷ flags heads (suc l) n))
      go true e = ap suc e
      go false e = e

  -- so many are counted, wherever counting begins
  pub holding_round : (s n : ℕ) → holding heads 0 n ≡ length (round_from s (flags heads 0 n))
  holding_round s n = holding_labels 0 n ∙ sym (round_length s (flags heads 0 n))

  -- one for each of them, which says whether it does
  pub flags_length : (l n : ℕ) → length (flags heads l n) ≡ n
  unfolding flags
  flags_length l zero = refl
  flags_length l (suc n) = ap suc (flags_length (suc l) n)

  pub flags_at : (l n k : ℕ) → k < n → get_or (flags heads l n) k false ≡ holds heads (l + k)
  unfolding flags
  flags_at l zero k h = absurd (omega arith)
  flags_at l (suc n) zero h = let z : l ≡ l + 0 = omega arith in ap (holds heads) z
  flags_at l (suc n) (suc k) h = let z : suc l + k ≡ l + suc k = omega arith in flags_at (suc l) n k (omega arith) ∙ ap (holds heads) z

  flags_are : (is : List Instance) (l : ℕ) → ((k : ℕ) (i : Instance) → get_elem? is k ≡ some i → holds heads (l + k) ≡ flag i)
      → flags heads l (length is) ≡ flags_of is
  unfolding flags
  flags_are [] l h = refl
  flags_are (i ∷ is) l h =
      let z : l + 0 ≡ l = omega arith in
      let a : holds heads l ≡ flag i = rw z at (h 0 i refl) in
      let b = flags_are is (suc l) (λ k j g. let q : l + suc k ≡ suc l + k = omega arith in rw q at (h (suc k) j g)) in
      cc

module _ {list : List ℕ} {P : ℕ → Sched → Type 0} (m : Machine) {z : State} (S : Stands list P m z) where
  -- the instances that hold commands on memory are those of the machine
  pub flags_same : flags z.heads 0 z.machine.count ≡ flags_of m.instances
  flags_same =
      rw S.counted
      (flags_are z.heads m.instances 0 λ k i g. let q : 0 + k ≡ k = omega arith in rw q (holds_same (S.each k i g)))

  -- as many hold commands
  pub holding_same : holding z.heads 0 z.machine.count ≡ length (holders m)
  unfolding holders
  holding_same = holding_round z.heads m.from z.machine.count ∙ ap (λ fs. length (round_from m.from fs)) flags_same

  -- and the byte e picks the same one, where both count from the same label
  pub picks : z.machine.from ≡ m.from → (e : ℕ) → picked z.heads z.machine.from z.machine.count e ≡ chosen (holders m) e
  unfolding picked holders
  picks q e = ap (λ (s : ℕ). chosen (round_from s (flags z.heads 0 z.machine.count)) e) q ∙ ap (λ fs. chosen (round_from m.from fs) e) flags_same
