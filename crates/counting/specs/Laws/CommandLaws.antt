-- How many commands memory holds (02 §14): as many as the machine that it stands for.
use Prim.Native.Nat.{ℕ, suc, ◌+◌, ◌-◌, ◌<◌, ◌≤◌}
use Rattle.std.proofs.Common.{arith, sym, ap, ap₂, subst, ◌∙◌, length-take, length-drop}
use Rattle.std.proofs.Math.Numerals.{add-one}
use Rattle.std.specs.Prelude.{◌≡◌, refl, List, [], ◌∷◌, map, length, get_or, take, drop}
use Rattle.std.proofs.Math.Option.{some}
use Rattle.std.proofs.Math.ListN.{get_elem?}
use Rattle.std.proofs.lemmas.List.{length-map}
use Rattle.commands.specs.Noted.{erase}
use Rattle.commands.specs.Coding.{words, command_word}
use Rattle.machine.specs.Published.{Sched}
use Rattle.machine.specs.Machine.{Instance, Machine}
use Rattle.machine.specs.Measure.{total, codes}
use Rattle.layout.specs.Layout.{head, next_of, end_of}
use Rattle.layout.specs.State.{State, of_head}
use Rattle.memory.specs.Stands.{Held, Stands}
use Rattle.counting.specs.Counting.{commands_in}

module _ (heads : List ℕ) (n l : ℕ) where
  -- nobody is left
  pub commands_done : n ≤ l → commands_in heads l (n - l) ≡ 0
  unfolding commands_in
  commands_done h = let z : n - l ≡ 0 = omega (arith, h) in rw z

  -- one more
  pub commands_next : l < n
      → commands_in heads l (n - l) ≡ (get_or heads (head l end_of) 0 - get_or heads (head l next_of) 0) + commands_in heads (l + 1) (n - (l + 1))
  unfolding commands_in
  commands_next h = let z : n - l ≡ suc (n - (l + 1)) = omega (arith, h) in rw (z, commands_in, add-one l)

-- an instance has as many commands as its numbers are apart
held_many : {list : List ℕ} {z : State} {l : ℕ} {i : Instance} → Held list z l i → of_head z l end_of - of_head z l next_of ≡ length i.code
unfolding words
held_many {list} {z} {l} {i} h =
    let n = of_head z l next_of in
    let e = of_head z l end_of in
    let a : length (take (e - n) (drop n list)) ≡ e - n = length-take (e - n) (drop n list) ∙ rw (length-drop n list) (let w = h.within in omega (arith, w)) in
    sym a ∙ ap length h.code ∙ length-map (map erase i.code) command_word ∙ length-map i.code erase

commands_are : (heads : List ℕ) (is : List Instance) (l : ℕ)
    → ((k : ℕ) (i : Instance) → get_elem? is k ≡ some i → get_or heads (head (l + k) end_of) 0 - get_or heads (head (l + k) next_of) 0 ≡ length i.code)
    → commands_in heads l (length is) ≡ codes is
unfolding commands_in codes total
commands_are heads [] l h = refl
commands_are heads (i ∷ is) l h =
    let z : l + 0 ≡ l = omega arith in
    let a = subst (λ x. get_or heads (head x end_of) 0 - get_or heads (head x next_of) 0 ≡ length i.code) z (h 0 i refl) in
    ap₂ (λ x y. x + y) a
    (commands_are heads is (suc l) (λ k j g.
    let q : l + suc k ≡ suc l + k = omega arith in
    subst (λ x. get_or heads (head x end_of) 0 - get_or heads (head x next_of) 0 ≡ length j.code) q (h (suc k) j g)))

pub commands_same : {list : List ℕ} {P : ℕ → Sched → Type 0} (m : Machine) {z : State} → Stands list P m z
    → commands_in z.heads 0 z.machine.count ≡ codes m.instances
commands_same m {z} S =
    ap (commands_in z.heads 0) S.counted
    ∙ commands_are z.heads m.instances 0
    (λ k i g. let q : k ≡ 0 + k = omega arith in subst (λ x. get_or z.heads (head x end_of) 0 - get_or z.heads (head x next_of) 0 ≡ length i.code) q (held_many (S.each k i g)))
