-- A command keeps the struct of every instance (000's rules for commands), so that a Bool parameter stays one (02 §14).
use Rattle.std.specs.Prelude.{ℕ, ◌≡◌, refl, List, set}
use Rattle.std.proofs.Common.{subst, ap, ◌∙◌}
use Rattle.std.proofs.Math.Option.{some}
use Rattle.std.proofs.Math.ListN.{get_elem?}
use Rattle.program.specs.Tree.{Program}
use Rattle.commands.specs.Context.{params_of}
use Rattle.commands.specs.Noted.{Note, now_written}
use Rattle.machine.specs.Machine.{Instance, Machine, Out, Out.next, Out.refused, Out.stuck, with_written, acting, command}
use Rattle.machine.specs.Performed.{Performed, Performed.pushed, Performed.pushed_this, Performed.negated, Performed.read_one, Performed.skipped}
use Rattle.machine.specs.Performed.{Performed.wrote, Performed.calculated, Performed.exceeding, Performed.constructed, Performed.filled}
use Rattle.machine.specs.Performed.{Performed.branched, Performed.no_way}
use Rattle.machine.proofs.Laws.PerformedLaws.{by_ways}
use Rattle.sound.proofs.Laws.Keeps.{Keeps, keeps_then, keeps_set, keeps_env, keeps_append}
use Rattle.counting.specs.Counting.{Truth}

abbrev Kept : List Instance → Out → Type 0
Kept is (next m) = Keeps is m.instances
Kept is (refused n) = Unit {0}
Kept is stuck = Unit {0}

module _ (p : Program) (m : Machine) (l : ℕ) (i₀ i : Instance) (g : get_elem? m.instances l ≡ some i₀) (s : i.struct ≡ i₀.struct) (r : List Note) where
  own : (j : Instance) → j.struct ≡ i.struct → Keeps m.instances (set m.instances l j)
  own j e = keeps_set m.instances l i₀ j g (e ∙ s)

  performed_keeps : {n : Note} {o : Out} → Performed p m l i r n o → Kept m.instances o
  performed_keeps pushed = own _ refl
  performed_keeps pushed_this = own _ refl
  performed_keeps (negated x) = own _ refl
  performed_keeps (read_one k x j a) = own _ refl
  performed_keeps (skipped k x j u a) = own _ refl
  performed_keeps (wrote k x j u a) = keeps_then (own _ refl) (keeps_env _ _ _)
  performed_keeps (calculated x a) = own _ refl
  performed_keeps (exceeding x a) = tt
  performed_keeps (constructed a u) = keeps_then (own _ refl) (keeps_append _ _)
  performed_keeps (filled u) = tt
  performed_keeps (branched x) = own _ refl
  performed_keeps no_way = tt

pub command_keeps : (p : Program) (l : ℕ) (m : Machine) {m' : Machine} → command p l m ≡ next m' → Keeps m.instances m'.instances
command_keeps p l m c =
    subst (Kept m.instances) c
    (by_ways (Kept m.instances) p m l tt
    λ i n r o g e w. performed_keeps p (acting l m) l i (with_written i (now_written n i.written)) g refl r w)

pub truth_kept : (p : Program) {is js : List Instance} → Keeps is js → {l v : ℕ} → Truth p is l v → Truth p js l v
truth_kept p k {l} {v} t =
    let (j, e, s) = k.at l t.instance t.there in
    record { instance = j; there = e; typed = ap (λ d. get_elem? (params_of p d) v) s ∙ t.typed }
