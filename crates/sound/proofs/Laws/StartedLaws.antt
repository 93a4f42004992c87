-- A machine with the invariant is in one step (01, 'Table and turns'): the step call that runs was started, and its holders hold rests of it.
use Rattle.std.specs.Prelude.{ℕ, ◌+◌, ◌≡◌, refl, ◌⊎◌, List, [], ◌++◌, drop}
use Rattle.std.proofs.Common.{ap, sym, ◌∙◌, subst, inl, inr, append-nil, drop-drop}
use Rattle.std.proofs.Math.Option.{Option, none, some}
use Rattle.program.specs.Tree.{Stmts, Program}
use Rattle.commands.specs.Context.{Ctx, context}
use Rattle.commands.specs.Noted.{Note, noted}
use Rattle.commands.specs.Tags.{Tags, jump, Way, Way.start, Way.on, Way.over}
use Rattle.machine.specs.Published.{StepCall}
use Rattle.machine.specs.Machine.{Instance, Machine}
use Rattle.sound.specs.Started.{RestOf, OneStep}
use Rattle.sound.specs.Invariant.{Job, Job.call, InJob, InJob.in_call, Passage, Place, Place.resting, Place.passing, Running, GoodAll, Good}
use Rattle.sound.proofs.Laws.ElemLaws.{none_some, some_is}

-- a way leads to a rest of its commands
way_rest : {G : Ctx} {c₀ : List Note} {x₀ : Tags} {c : List Note} {x : Tags} → Way G c₀ x₀ c x → (n : ℕ) × (c ≡ drop n c₀)
way_rest start = (0, refl)
way_rest {c₀ = c₀} (on w) =
    let (k, e) = way_rest w in (k + 1, ap (drop 1) e ∙ drop-drop 1 k c₀)
way_rest {c₀ = c₀} (over {n = n} w) =
    let (k, e) = way_rest w in
    (k + 1 + jump n, ap (λ r. drop (jump n) (drop 1 r)) e ∙ ap (drop (jump n)) (drop-drop 1 k c₀) ∙ drop-drop (jump n) (k + 1) c₀)

module _ {p : Program} {is : List Instance} {l : ℕ} {i : Instance} where
  idle : Place p none is l i → i.code ≡ []
  idle (resting e χ) = e
  idle (passing g (inl e)) = e
  idle (passing g (inr e)) = none_some e

  in_step : {a : StepCall} → Passage p (call a) is l i → RestOf p a i.struct i.code
  in_step {a} g = go g.has g.code (way_rest g.way)
    where
      go : {b : Stmts} {rest : List Note} → InJob p i.struct (call a) b rest → i.code ≡ g.held ++ rest
          → (n : ℕ) × (g.held ≡ drop n (noted (context p i.struct b) b)) → RestOf p a i.struct i.code
      go {b} (in_call e) c (n, q) = (b, e, n, c ∙ append-nil g.held ∙ q)

  held : {a : StepCall} → Place p (some (call a)) is l i → (i.code ≡ []) ⊎ (RestOf p a i.struct i.code)
  held (resting e χ) = inl e
  held (passing g (inl e)) = inl e
  held {a} (passing {a = b} g (inr e)) = inr (in_step (subst (λ c. Passage p c is l i) (sym (some_is e)) g))

-- nobody holds commands, or every holder holds a rest of the step that was started last
pub good_one_step : {p : Program} {m : Machine} → Good p m → OneStep p m
good_one_step {p} {m} good = go good.runs good.all good.running
  where
    go : (r : Option Job) → GoodAll p r m.instances → Running p r m.sched → OneStep p m
    go none a q = inl λ l i e. idle (a.each l i e).place
    go (some (call c)) a q = inr (c, q, λ l i e. held (a.each l i e).place)
