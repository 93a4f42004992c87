-- The invariant through a change of the instances: every instance after it is one from before, or good by itself.
use Rattle.std.specs.Prelude.{ℕ, ◌≡◌, refl, Bool, true, false, ◌⊎◌, List, length, set}
use Rattle.std.proofs.Math.Decide.{ℕ_discrete}
use Rattle.std.proofs.Common.{sym, ◌∙◌, inl, inr, ⊎_elim}
use Rattle.std.proofs.Math.Option.{Option, some}
use Rattle.std.proofs.Math.ListN.{get_elem?}
use Rattle.std.proofs.lemmas.List.{length-map}
use Rattle.types.specs.Types.{Ty, Ty.int}
use Rattle.program.specs.Tree.{Program}
use Rattle.commands.specs.Context.{params_of, body_local}
use Rattle.machine.specs.Published.{Env, Env.env}
use Rattle.machine.specs.Rules.{meet}
use Rattle.machine.specs.Machine.{Instance, with_env, update_env}
use Rattle.sound.specs.Invariant.{Fitted, Job, Passage, Place, Place.resting, Place.passing, GoodInst, GoodAll}
use Rattle.sound.proofs.Laws.Keeps.{Keeps, of_kept, fits_kept, keeps_set, keeps_env, at_env_same, at_env_other}
use Rattle.sound.proofs.Laws.ElemLaws.{at_set_same, at_set_other, some_is}
use Rattle.sound.proofs.Laws.EachLaws.{each_map}

module _ (p : Program) {is js : List Instance} (k : Keeps is js) where
  -- an environment stays fitted, a passage a passage, an instance good
  pub fitted_kept : (ts : List Ty) (ξ : Env) → Fitted is ts ξ → Fitted js ts ξ
  fitted_kept ts (env ps ls) f = (each_map (of_kept k) ts ps f.0, f.1)

  pub passage_kept : {a : Job} (l : ℕ) (i : Instance) → Passage p a is l i → Passage p a js l i
  passage_kept l i g = record {
    body = g.body;
    rest = g.rest;
    has = g.has;
    held = g.held;
    code = g.code;
    full = g.full;
    place = g.place;
    way = g.way;
    kept = g.kept;
    stacked = each_map (fits_kept k) g.place.stack i.stack g.stacked;
    own = g.own;
    locals = λ x h. let (v, e, o) = g.locals x h in (v, e, of_kept k (body_local g.body x int) v o);
  }

  place_kept : {r : Option Job} (l : ℕ) (i : Instance) → Place p r is l i → Place p r js l i
  place_kept l i (resting c χ) = resting c χ
  place_kept l i (passing g h) = passing (passage_kept l i g) h

  pub inst_kept : {r : Option Job} (l : ℕ) (i : Instance) → GoodInst p r is l i → GoodInst p r js l i
  inst_kept l i g = record { fitted = fitted_kept (params_of p i.struct) i.env g.fitted; place = place_kept l i g.place }

  -- a change after which every instance is one from before, or good
  pub good_change : {r : Option Job} → GoodAll p r is
      → ((l : ℕ) (i : Instance) → get_elem? js l ≡ some i → (get_elem? is l ≡ some i) ⊎ GoodInst p r js l i)
      → GoodAll p r js
  good_change a f = record {
    nulls = λ n h. let (i, e, s) = a.nulls n h in let (j, e', s') = k.at n i e in (j, e', s' ∙ s);
    each = λ l i e. ⊎_elim (λ h. inst_kept l i (a.each l i h)) (λ g. g) (f l i e);
  }

module _ (p : Program) (is : List Instance) (l : ℕ) (i j : Instance) (at : get_elem? is l ≡ some i) (same : j.struct ≡ i.struct) where
  -- an instance put back with its struct
  pub good_set : {r : Option Job} → GoodAll p r is → GoodInst p r (set is l j) l j → GoodAll p r (set is l j)
  good_set {r} a g = good_change p (keeps_set is l i j at same) a (λ n x e. go n x e (ℕ_discrete n l))
    where
      go : (n : ℕ) (x : Instance) → get_elem? (set is l j) n ≡ some x → Dec (n ≡ l) → (get_elem? is n ≡ some x) ⊎ GoodInst p r (set is l j) n x
      go n x e (yes q) =
          let h : j ≡ x = some_is (sym (at_set_same is l j i at) ∙ rw q at e) in
          inr (rw (q, ← h) g)
      go n x e (no q) = inl (sym (at_set_other is l n j q) ∙ e)

-- another environment for the instance r
pub good_env : (p : Program) (is : List Instance) (r : ℕ) (j : Instance) (ξ : Env) → get_elem? is r ≡ some j → {c : Option Job} → GoodAll p c is
    → GoodInst p c is r (with_env j ξ) → GoodAll p c (update_env is r ξ)
good_env p is r j ξ at {c} a g = good_change p keeps a (λ n x e. go n x e (ℕ_discrete n r))
  where
    keeps : Keeps is (update_env is r ξ)
    keeps = keeps_env is r ξ

    go : (n : ℕ) (x : Instance) → get_elem? (update_env is r ξ) n ≡ some x → Dec (n ≡ r)
        → (get_elem? is n ≡ some x) ⊎ GoodInst p c (update_env is r ξ) n x
    go n x e (yes q) =
        let h : with_env j ξ ≡ x = some_is (sym (at_env_same is r ξ j at) ∙ rw q at e) in
        inr (rw (q, ← h) (inst_kept p keeps r (with_env j ξ) g))
    go n x e (no q) = inl (sym (at_env_other is r n ξ q) ∙ e)

-- stability keeps its height
pub meet_length : (t : Bool) (b : List Bool) → length (meet t b) ≡ length b
unfolding meet
meet_length true b = refl
meet_length false b = length-map b (λ t. false)
