-- cons keeps the invariant: the new instance rests, with parameters of their types, and the actor has its label.
use Rattle.std.specs.Prelude.{ℕ, ◌≡◌, refl, false, ◌⊎◌, List, [], ◌∷◌, ◌++◌, length, set}
use Rattle.std.proofs.Math.Decide.{ℕ_discrete}
use Rattle.std.proofs.Common.{sym, ◌∙◌, inl, inr, length-set}
use Rattle.std.proofs.Math.Option.{Option, none, some}
use Rattle.std.proofs.Math.ListN.{get_elem?}
use Rattle.std.proofs.lemmas.List.{length-replicate}
use Rattle.types.specs.Limits.{max_locals}
use Rattle.types.specs.Types.{Ty.ref}
use Rattle.types.specs.Values.{Val, Val.label}
use Rattle.program.specs.Tree.{Program}
use Rattle.commands.specs.Context.{params_of}
use Rattle.commands.specs.Noted.{Note}
use Rattle.table.specs.Table.{Each}
use Rattle.machine.specs.Rules.{meet}
use Rattle.machine.specs.Machine.{Tagged, Instance, Machine, with_instances, with_stability}
use Rattle.run.specs.Begin.{resting as at_rest}
use Rattle.sound.specs.Needs.{ValueAmong}
use Rattle.sound.specs.Invariant.{Job, Place, Place.resting, GoodInst, Good}
use Rattle.sound.proofs.Laws.Keeps.{Keeps, keeps_then, keeps_set, keeps_append}
use Rattle.sound.proofs.Laws.ElemLaws.{at_set_same, at_set_other, at_snoc, at_last, some_is}
use Rattle.sound.proofs.Laws.GoodLaws.{fitted_kept, good_change, meet_length}
use Rattle.sound.proofs.Laws.Advance.{after}

-- an instance at rest with parameters of their types
pub rests : (p : Program) {r : Option Job} (is : List Instance) (l k : ℕ) (vs : List Val) → Each (ValueAmong is) (params_of p k) vs
    → GoodInst p r is l (at_rest k vs)
rests p is l k vs f = record { fitted = (f, length-replicate {A = Option Val} max_locals none); place = resting refl refl }

module _ {p : Program} {m : Machine} (good : Good p m) (l : ℕ) (i : Instance) (at : get_elem? m.instances l ≡ some i)
    (w : List ℕ) (n : Note) (c : List Note) (χ : List Tagged) (k : ℕ) (vs : List Val) where
  abbrev actor : Instance
  actor = after i w n c χ i.env

  abbrev all_after : List Instance
  all_after = set m.instances l actor ++ at_rest k vs ∷ []

  -- the instances from before are there
  pub cons_keeps : Keeps m.instances all_after
  cons_keeps = keeps_then (keeps_set m.instances l i actor at refl) (keeps_append (set m.instances l actor) (at_rest k vs ∷ []))

  -- so is the new one, under the first label that was free
  pub new_label : ValueAmong all_after (ref k) (label (length m.instances))
  new_label = (at_rest k vs, rw (length-set m.instances l actor) at (at_last (set m.instances l actor) (at_rest k vs)), refl)

  -- all of them are good
  pub cons_kept : Each (ValueAmong all_after) (params_of p k) vs → {a : Job} → good.runs ≡ some a → Place p (some a) all_after l actor
      → Good p (with_stability (with_instances m all_after) (meet false m.stability))
  cons_kept f runs g = record {
    runs = good.runs;
    all = good_change p cons_keeps good.all (λ r x e. split r x (at_snoc (set m.instances l actor) (at_rest k vs) r x e));
    running = good.running;
    opened = rw (meet_length false m.stability) good.opened;
    left = good.left;
  }
    where
      old : (r : ℕ) (x : Instance) → get_elem? (set m.instances l actor) r ≡ some x → Dec (r ≡ l)
          → (get_elem? m.instances r ≡ some x) ⊎ GoodInst p good.runs all_after r x
      old r x e (yes q) =
          let h : actor ≡ x = some_is (sym (at_set_same m.instances l actor i at) ∙ rw q at e) in
          inr
          (rw (q, ← h)
          (record {
            fitted = fitted_kept p cons_keeps (params_of p i.struct) i.env (good.all.each l i at).fitted;
            place = rw runs g;
          }))
      old r x e (no q) = inl (sym (at_set_other m.instances l r actor q) ∙ e)

      split : (r : ℕ) (x : Instance)
          → (get_elem? (set m.instances l actor) r ≡ some x) ⊎ ((r ≡ length (set m.instances l actor)) × (at_rest k vs ≡ x))
          → (get_elem? m.instances r ≡ some x) ⊎ GoodInst p good.runs all_after r x
      split r x (inl e) = old r x e (ℕ_discrete r l)
      split r x (inr h) = inr (rw (← h.1) (rests p all_after r k vs f))
