-- Which instances hold commands after a command (01, 'Table and turns'): the actor by what it has left, all others as before it, and a
-- new instance not.
use Rattle.std.specs.Prelude.{ℕ, zero, suc, ◌≡◌, refl, Bool, length}
use Rattle.std.proofs.Math.Path.{ap, sym}
use Rattle.std.proofs.Common.{◌∙◌, subst}
use Rattle.std.proofs.Math.Bool.{false}
use Rattle.std.proofs.Math.Logic.{inl, inr}
use Rattle.std.proofs.Math.Option.{some}
use mathlib.Core.List.{List, [], ◌∷◌, ◌++◌, append-nil}
use Rattle.std.proofs.Math.ListN.{get_elem?, set, drop}
use Rattle.types.specs.Types.{Ty.ref}
use Rattle.types.specs.Values.{Val.label}
use Rattle.program.specs.Tree.{Program}
use Rattle.commands.specs.Noted.{Note, now_written}
use Rattle.machine.specs.Published.{Env, arity}
use Rattle.machine.specs.Machine.{tagged, Instance, Machine, Out, Out.next, Out.refused, Out.stuck, with_code, with_env, with_written, acting, update_env}
use Rattle.machine.specs.Machine.{made, command}
use Rattle.machine.specs.Performed.{Performed, Performed.pushed, Performed.pushed_this, Performed.negated, Performed.read_one, Performed.skipped}
use Rattle.machine.specs.Performed.{Performed.wrote, Performed.calculated, Performed.exceeding, Performed.constructed, Performed.filled}
use Rattle.machine.specs.Performed.{Performed.branched, Performed.no_way}
use Rattle.machine.proofs.Laws.PerformedLaws.{by_ways}
use Rattle.run.specs.Holders.{holds_code, flag, flags}
pub use Rattle.sound.specs.Flags.{Idle, Flagged}
use Rattle.sound.proofs.Laws.ElemLaws.{none_some, at_set_same, at_append}

flags_set : (is : List Instance) (l : ℕ) (j : Instance) → flags (set is l j) ≡ set (flags is) l (flag j)
flags_set [] l j = refl
flags_set (x ∷ is) zero j = refl
flags_set (x ∷ is) (suc l) j = ap (λ (fs : List Bool). flag x ∷ fs) (flags_set is l j)

flags_append : (is : List Instance) (i : Instance) → flags (is ++ i ∷ []) ≡ flags is ++ flag i ∷ []
flags_append [] i = refl
flags_append (x ∷ is) i = ap (λ (fs : List Bool). flag x ∷ fs) (flags_append is i)

-- an environment changed leaves commands
flags_env : (is : List Instance) (q : ℕ) (ξ : Env) → flags (update_env is q ξ) ≡ flags is
unfolding update_env
flags_env [] q ξ = refl
flags_env (x ∷ is) zero ξ = refl
flags_env (x ∷ is) (suc q) ξ = ap (λ (fs : List Bool). flag x ∷ fs) (flags_env is q ξ)

env_code : (is : List Instance) (q : ℕ) (ξ : Env) (l : ℕ) {i : Instance} → get_elem? is l ≡ some i
    → (j : Instance) × (get_elem? (update_env is q ξ) l ≡ some j) × (j.code ≡ i.code)
unfolding update_env
env_code [] q ξ l e = none_some e
env_code (x ∷ is) zero ξ zero e = (with_env x ξ, refl, cc)
env_code (x ∷ is) zero ξ (suc l) {i} e = (i, e, refl)
env_code (x ∷ is) (suc q) ξ zero {i} e = (i, e, refl)
env_code (x ∷ is) (suc q) ξ (suc l) e = env_code is q ξ l e

abbrev Leaves : ℕ → List Bool → Out → Type 0
Leaves l fs (next m) = Flagged l fs m.instances
Leaves l fs (refused n) = Unit {0}
Leaves l fs stuck = Unit {0}

module _ (p : Program) (m : Machine) (l : ℕ) {i₀ : Instance} (g : get_elem? m.instances l ≡ some i₀) (i : Instance) (r : List Note) where
  own : (j : Instance) → Flagged l (flags m.instances) (set m.instances l j)
  own j = record {
    actor = j;
    there = at_set_same m.instances l j i₀ g;
    more = [];
    idle = inl refl;
    others = flags_set m.instances l j ∙ sym (append-nil (set (flags m.instances) l (flag j)));
  }

  leaves : {n : Note} {o : Out} → Performed p m l i r n o → Leaves l (flags m.instances) o
  unfolding holds_code
  leaves pushed = own _
  leaves pushed_this = own _
  leaves (negated x) = own _
  leaves (read_one k x j a) = own _
  leaves (skipped k x j u a) = own _
  leaves (wrote {q = q} {χ = χ} k x j u a) =
      let (v, at, c) = env_code (set m.instances l (with_code i r χ)) q _ l (at_set_same m.instances l (with_code i r χ) i₀ g) in
      let f : flag (with_code i r χ) ≡ flag v = ap holds_code (sym c) in
      record {
        actor = v;
        there = at;
        more = [];
        idle = inl refl;
        others =
            flags_env (set m.instances l (with_code i r χ)) q _ ∙ flags_set m.instances l (with_code i r χ)
            ∙ ap (λ (b : Bool). set (flags m.instances) l b) f ∙ sym (append-nil (set (flags m.instances) l (flag v)));
      }
  leaves (calculated x a) = own _
  leaves (exceeding x a) = tt
  leaves (constructed {k = k} a u) =
      let j = with_code i r (tagged (ref k) (label (length m.instances)) ∷ drop (arity p k) i.stack) in
      let n = made p m l i k (arity p k) i.stack in
      record {
        actor = j;
        there = at_append (set m.instances l j) (n ∷ []) l j (at_set_same m.instances l j i₀ g);
        more = false ∷ [];
        idle = inr refl;
        others = flags_append (set m.instances l j) n ∙ ap (λ (fs : List Bool). fs ++ false ∷ []) (flags_set m.instances l j);
      }
  leaves (filled u) = tt
  leaves (branched x) = own _
  leaves no_way = tt

command_leaves : (p : Program) (l : ℕ) (m : Machine) → Leaves l (flags m.instances) (command p l m)
command_leaves p l m =
    by_ways (Leaves l (flags m.instances)) p m l tt
    λ i n r o g e w. leaves p (acting l m) l g (with_written i (now_written n i.written)) r w

-- the flags after a command of instance l
pub flags_behind : (p : Program) (l : ℕ) (m : Machine) {m' : Machine} → command p l m ≡ next m' → Flagged l (flags m.instances) m'.instances
flags_behind p l m c = subst (Leaves l (flags m.instances)) c (command_leaves p l m)
