-- The pass over the roles of a whole derivation leaves the numbers of what its steps and its schedule mean.
use Rattle.std.specs.Prelude.{ℕ, ◌≡◌, Bool, ◌&&◌}
use Rattle.std.proofs.Math.Path.{refl, ap}
use Rattle.std.proofs.Common.{sym, ◌∙◌, true≢false}
use Rattle.std.proofs.Math.Bool.{true, false}
use mathlib.Core.List.{List, [], ◌∷◌, append-nil}
use Rattle.std.proofs.Math.Option.{Option, none, some}
use Rattle.program.specs.Tree.{Item as Call, Item.fix, Items, Items.stop, Items.item}
use Rattle.program.specs.Encoding.{flat}
use Rattle.syntax.specs.Syntax.{Id, TypeName, Par, Par.par, Step, Step.step, Struct, Struct.struct, Defs, Defs.last_struct, Defs.defs, Item, Item.execution}
use Rattle.syntax.specs.Syntax.{Item.typed_execution, Item.fixpoint, Sched, Sched.last_item, Sched.barrier}
use Rattle.meaning.specs.Scope.{struct_id, pars_of, steps_of, structs_of}
use Rattle.meaning.specs.Finding.{Place, find}
use Rattle.meaning.specs.HoldsDecide.{all}
use Rattle.meaning.specs.Meant.{then, each, step_meaning, steps_meaning, item_meaning, sched_meaning}
use Rattle.text_shape.specs.Roles.{Part.body_close, Part.pars_close, Part.steps_open, Part.steps_close, Part.fix_close, Part.barrier_sign, Role, Role.part}
use Rattle.text_shape.specs.Roles.{roles_par, roles_par_list, roles_pars, roles_step, roles_steps, roles_struct, roles_defs, roles_item, roles_sched}
use Rattle.resolve.specs.Passing.{Pass, leaves, lives, begins, numbered, pass, passes, pass_part, pass_name, pass_token, pass_type}
use Rattle.resolve.specs.Numbers.{step_numbers, steps_numbers, item_numbers, items_numbers, few_step, few_steps}
use Rattle.resolve.specs.Outcomes.{onto, onto_both, built, Outcome, Outcome.fails, Outcome.goes, as_well, followed, made_of, past}
use Rattle.resolve.specs.Laws.PassingLaws.{told_to, told, told_both}
use Rattle.resolve.specs.Laws.PassingStatLaws.{lived, at_body, stats_told}

-- outside of steps
unfoldable pub idle : List Struct → List Par → TypeName → List ℕ → Pass
idle ls own t o =
    record {
      left = ls;
      own = own;
      alive = [];
      fresh = [];
      met = [];
      type = t;
      dues = [];
      bodies = [];
      out = o;
    }

module _ (ds : List Struct) (names : List Id) where
  -- Steps of a struct ----------------------------------------------------------------------------

  module _ (ls : List Struct) (own : List Par) where
    abbrev Stepped : TypeName → List ℕ → Step → Type 0
    Stepped t o s =
        Outcome ds names few_step (λ u w. idle ls own w (onto (step_numbers u) o)) (step_meaning ds names own s)
        (λ k. passes ds names (roles_step s k) (idle ls own t o))

    step_told : (t : TypeName) (o : List ℕ) (s : Step) → Stepped t o s
    unfolding roles_step step_meaning step_numbers few_step passes pass pass_name pass_part numbered then leaves lives lived idle onto
    step_told t o (step x b) = go (find (λ z. z) x names) refl
      where
        go : (f : Option (Place Id)) → find (λ z. z) x names ≡ f → Stepped t o (step x b)
        go none e = rw e (fails (λ k. refl))
        go (some f) e =
            rw e
            (made_of ds names (λ r. record { name = f.at; body = r.tree }) (λ r. refl)
            (past ds names {final = at_body (leaves (idle ls own t o) t f.at)}
            {last = λ r w. idle ls own w (onto (step_numbers (record { name = f.at; body = r.tree })) o)}
            (part body_close) (λ r w. refl) (stats_told ds names b (leaves (idle ls own t o) t f.at))) (λ r w. refl))

    steps_told : (ts : List Step) (t : TypeName) (o : List ℕ)
        → Outcome ds names few_steps (λ us w. idle ls own w (onto (steps_numbers us) o)) (each (step_meaning ds names own) ts)
        (λ k. passes ds names (roles_steps ts k) (idle ls own t o))
    unfolding roles_steps each flat all onto then
    steps_told [] t o = goes refl t (λ k. refl)
    steps_told (s ∷ ts) t o =
        followed ds names (idle ls own t o) (roles_step s) (roles_steps ts)
        (λ u y. built (λ us. few_steps us ≡ false) (each (step_meaning ds names own) ts) (λ us. u ∷ us) (λ us. rw y refl)) (step_told t o s)
        (λ u w y. made_of ds names (λ us. u ∷ us) (λ us. rw y refl) (steps_told ts w (onto (step_numbers u) o))
        (λ us v. ap (idle ls own v) (onto_both (step_numbers u) (steps_numbers us) o)))

  -- Structs ----------------------------------------------------------------------------------------

  par_past : (p : Par) (k : List Role) (q : Pass) → passes ds names (roles_par p k) q ≡ passes ds names k q
  unfolding roles_par passes pass pass_name pass_token pass_type then
  par_past (par x t) k q = refl

  par_list_past : (ps : List Par) (k : List Role) (q : Pass) → passes ds names (roles_par_list ps k) q ≡ passes ds names k q
  unfolding roles_par_list passes pass pass_part then
  par_list_past [] k q = refl
  par_list_past (p ∷ ps) k q = par_past p (roles_par_list ps k) q ∙ par_list_past ps k q

  pars_past : (ps : List Par) (k : List Role) (q : Pass) → passes ds names (roles_pars ps k) q ≡ passes ds names k q
  unfolding roles_pars
  pars_past [] k q = refl
  pars_past (p ∷ ps) k q = par_past p (roles_par_list ps k) q ∙ par_list_past ps k q

  struct_told : (d : Struct) (ls : List Struct) (own : List Par) (t : TypeName) (o : List ℕ)
      → Outcome ds names few_steps (λ us w. idle ls (pars_of d) w (onto (steps_numbers us) o)) (steps_meaning ds names d)
      (λ k. passes ds names (roles_struct d k) (idle (d ∷ ls) own t o))
  unfolding roles_struct steps_meaning steps_of pars_of passes pass pass_name pass_part pass_token begins then idle
  struct_told (struct x ps ts) ls own t o =
      as_well ds names (past ds names {final = λ us w. idle ls ps w (onto (steps_numbers us) o)} (part steps_close) (λ us w. refl) (steps_told ls ps ts t o))
      (λ k. pars_past ps (part pars_close ∷ part steps_open ∷ roles_steps ts (part steps_close ∷ k)) (idle ls ps t o))

  -- the parameters of the last struct
  unfoldable pub own_behind : Defs → List Par
  own_behind (last_struct d) = pars_of d
  own_behind (defs d ds) = own_behind ds

  pub defs_told : (d : Defs) (own : List Par) (t : TypeName) (o : List ℕ)
      → Outcome ds names (all few_steps) (λ us w. idle [] (own_behind d) w (onto (flat steps_numbers us) o)) (each (steps_meaning ds names) (structs_of d))
      (λ k. passes ds names (roles_defs d k) (idle (structs_of d) own t o))
  unfolding roles_defs structs_of own_behind each flat all onto then
  defs_told (last_struct d) own t o =
      made_of ds names (λ u. u ∷ []) (λ u. alone (few_steps u)) (struct_told d [] own t o)
      (λ u w. ap (λ ns. idle [] (pars_of d) w (onto ns o)) (sym (append-nil (steps_numbers u))))
    where
      alone : (b : Bool) → (b && true) ≡ b
      alone true = refl
      alone false = refl
  defs_told (defs d e) own t o =
      followed ds names (idle (d ∷ structs_of e) own t o) (roles_struct d) (roles_defs e)
      (λ u y. built (λ us. all few_steps us ≡ false) (each (steps_meaning ds names) (structs_of e)) (λ us. u ∷ us) (λ us. rw y refl))
      (struct_told d (structs_of e) own t o)
      (λ u w y. made_of ds names (λ us. u ∷ us) (λ us. rw y refl) (defs_told e (pars_of d) w (onto (steps_numbers u) o))
      (λ us v. ap (idle [] (own_behind e) v) (onto_both (steps_numbers u) (flat steps_numbers us) o)))

  -- The schedule -------------------------------------------------------------------------------------

  abbrev Called : Pass → Item → Type 0
  Called q i =
      Outcome ds names {A = Call} (λ c. true) (λ c t. told q (item_numbers c) t) (item_meaning ds names i) (λ k. passes ds names (roles_item i k) q)

  abbrev Scheduled : Pass → Sched → Type 0
  Scheduled q s =
      Outcome ds names {A = Items} (λ c. true) (λ c t. told q (items_numbers c) t) (sched_meaning ds names s) (λ k. passes ds names (roles_sched s k) q)

  execution_told : (q : Pass) (x : Id) → Called q (execution x)
  unfolding roles_item item_meaning item_numbers passes pass pass_name numbered then leaves told_to onto
  execution_told q x = go (find (λ z. z) x names) refl
    where
      go : (o : Option (Place Id)) → find (λ z. z) x names ≡ o → Called q (execution x)
      go none e = rw e (fails (λ k. refl))
      go (some f) e = rw e (goes refl q.type (λ k. refl))

  typed_told : (q : Pass) (x y : Id) → Called q (typed_execution x y)
  unfolding roles_item item_meaning item_numbers passes pass pass_name pass_token numbered then leaves told_to onto
  typed_told q x y = go (find struct_id x ds) refl (find (λ z. z) y names) refl
    where
      go : (o : Option (Place Struct)) → find struct_id x ds ≡ o → (s : Option (Place Id)) → find (λ z. z) y names ≡ s → Called q (typed_execution x y)
      go none e s f = rw e (fails (λ k. refl))
      go (some d) e none f = rw (e, f) (fails (λ k. refl))
      go (some d) e (some s) f = rw (e, f) (goes refl q.type (λ k. refl))

  fix_told : (q : Pass) (s : Sched) → Scheduled q s → Called q (fixpoint s)
  unfolding roles_item item_meaning item_numbers passes pass pass_part pass_token then told_to
  fix_told q s r = past ds names (part fix_close) (λ c t. refl) (made_of ds names fix (λ c. refl) r (λ c t. refl))

  last_told : (q : Pass) (i : Item) → Called q i → Scheduled q (last_item i)
  unfolding roles_item item_meaning item_numbers told_to
  last_told q i r = made_of ds names (λ c. item c stop) (λ c. refl) r (λ c t. ap (λ ns. told q ns t) (sym (append-nil (item_numbers c))))

  barrier_told : (q : Pass) (i : Item) (s : Sched) → Called q i → ((r : Pass) → Scheduled r s) → Scheduled q (barrier i s)
  unfolding roles_item item_meaning item_numbers passes pass pass_part then told_to
  barrier_told q i s r h =
      followed ds names q (roles_item i) (λ k. part barrier_sign ∷ roles_sched s k) (λ c y. absurd (true≢false y)) r
      (λ c t y. made_of ds names (item c) (λ is. refl) (h (told q (item_numbers c) t))
      (λ is u. told_both q q.dues q.dues (item_numbers c) (items_numbers is) t u))

  mutual
    item_told : (i : Item) (q : Pass) → Called q i
    item_told (execution x) q = execution_told q x
    item_told (typed_execution x y) q = typed_told q x y
    item_told (fixpoint s) q = fix_told q s (sched_told s q)

    pub sched_told : (s : Sched) (q : Pass) → Scheduled q s
    sched_told (last_item i) q = last_told q i (item_told i q)
    sched_told (barrier i s) q = barrier_told q i s (item_told i q) (λ r. sched_told s r)
