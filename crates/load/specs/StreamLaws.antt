-- What the reader of a program answers gives the program that is checked (01, 4 to 8 of 'Numbers from the input'), its counts, and the tables of its
-- parameters.
use Prim.Native.Nat.{ℕ, zero, suc, ◌*◌, ◌<◌, ◌≤◌}
use Rattle.std.proofs.Common.{arith, ◌∙◌, take_at}
use Rattle.std.proofs.Math.Path.{◌≡◌, refl, ap, sym}
use mathlib.Core.List.{List, [], ◌∷◌, ◌++◌, map}
use Rattle.std.specs.Prelude.{Ok, Err, Bool, true, false, not, length, take, drop}
use Rattle.std.proofs.lemmas.List.{length-map}
use Rattle.types.specs.Limits.{max_depth, max_steps}
use Rattle.types.specs.Stages.{Stage.went as accepted, Stage.stopped as refused}
use Rattle.program.specs.Tree.{Step, Program}
use Rattle.program.specs.Counts.{All, Few, CountsStep, Counts}
use Rattle.program.specs.Reader.{Result, Result.ok, Result.bad, read_params, read}
use Rattle.program.proofs.Laws.ProgramLaws.{program_law}
use Rattle.commands.specs.Bounds.{total, greatest, step_depth, arities, program_size, program_depth, Within}
use Rattle.answers.specs.Answers.{Answer}
use Rattle.answers.specs.AnswerLaws.{ok_parts}
use Rattle.commands.specs.Numbers.{breach_number, breach_tests, first, over_limits, wrong_names, wrong_types}
use Rattle.commands.specs.Decide.BoundsDecide.{within as within_test}
use Rattle.commands.specs.Decide.NamesDecide.{names_right}
use Rattle.commands.specs.Decide.TypingDecide.{types_right}
use Rattle.commands.proofs.Laws.NumbersLaws.{number_accepted}
use Rattle.verdict.specs.Verdict.{judge, of_read}
use Rattle.judge.specs.ProgramFacts.{program_totals, program_plan, checked_number}
use Rattle.judge.proofs.Laws.ProgramFactsLaws.{checked_law, checked_commands, checked_depth}
use Rattle.judge.proofs.Laws.ProgramTableLaws.{totals_count}
use Rattle.directory.specs.Rows.{Listed}
use Rattle.read_params.specs.ParamsTold.{ParamsKept}
use Rattle.emit.specs.Laws.ProgramLaws.{Standing, program_steps, whole_program}
use Rattle.read_program.specs.declared.Summary.{Summary}
use Rattle.read_program.specs.Whole.{summary, place_of, steps_place, schedule_place, program_told, ReadListed}

total_few : {A : Type 0} (C : A → Type 0) (l : List (List A)) → All (Few 0 max_steps C) l → total length l ≤ max_steps * length l
unfolding total
total_few C [] h = omega arith
total_few C (a ∷ l) h = omega (arith, h.0.1, total_few C l h.1)

greatest_most : {A : Type 0} (f : A → ℕ) (l : List A) → All (λ a. f a ≤ max_depth) l → greatest f l ≤ max_depth
unfolding greatest
greatest_most f [] h = omega arith
greatest_most f (a ∷ l) h = omega (arith, h.0, greatest_most f l h.1)

-- What was read, from what was answered ------------------------------------------------

module _ (s : List ℕ) where
  pub stream_stops : (e : ℕ) → program_told s (read s) ≡ Err e → of_read (read s) ≡ refused e
  unfolding of_read
  stream_stops e i = go (read s) i
    where
      go : (q : Result Program) → program_told s q ≡ Err e → of_read q ≡ refused e
      go (ok p m) i = cc
      go (bad p n) i = let j : n ≡ e = cc in ap refused j

  -- the program behind an answer
  pub record Behind (k : ℕ) (z : Summary) : Type 0 where
    pub program : Program
    pub end : ℕ
    pub reads : read s ≡ ok program end
    pub counts : Counts program
    pub place : steps_place s ≡ k
    pub summed : z ≡ summary (length program.params) (schedule_place s program) (program_totals program) (program_plan program)

  pub stream_value : (k : ℕ) (z : Summary) → program_told s (read s) ≡ Ok (k, z) → Behind k z
  stream_value k z i = go (read s) refl i
    where
      parts : (p : Program) → ◌≡◌ {A = Answer Summary} (Ok (steps_place s, summary (length p.params) (schedule_place s p) (program_totals p) (program_plan p))) (Ok (k, z))
          → (steps_place s ≡ k) × (summary (length p.params) (schedule_place s p) (program_totals p) (program_plan p) ≡ z)
      parts p e = ok_parts (steps_place s) k (summary (length p.params) (schedule_place s p) (program_totals p) (program_plan p)) z e

      go : (q : Result Program) → read s ≡ q → program_told s q ≡ Ok (k, z) → Behind k z
      go (ok p m) e i = record { program = p; end = m; reads = e; counts = ((program_law s p m).0 e).0; place = (parts p i).0; summed = sym (parts p i).1 }
      go (bad p n) e i = cc

  module _ (k : ℕ) (z : Summary) (b : Behind k z) where
    abbrev p : Program
    p = b.program

    pub number_is : z.number ≡ breach_number p
    unfolding checked_number
    number_is = ap (λ (x : Summary). x.number) b.summed ∙ checked_law p b.counts

    judged : of_read (read s) ≡ judge p z.number
    unfolding of_read
    judged = rw (b.reads, ← number_is)

    -- it is 0, or 6 to 8
    pub breach : (z.number ≡ 0 → ⊥) → (6 ≤ z.number) × (z.number ≤ 8)
    unfolding breach_number breach_tests first
    breach h = go (not (within_test p)) (not (names_right p)) (not (types_right p)) number_is
      where
        go : (a b c : Bool) → z.number ≡ first ((over_limits, a) ∷ (wrong_names, b) ∷ (wrong_types, c) ∷ []) → (6 ≤ z.number) × (z.number ≤ 8)
        go true b c e = omega arith
        go false true c e = omega arith
        go false false true e = omega arith
        go false false false e = absurd (h e)

    -- a number other than 0 refuses, and 0 accepts
    pub numbered : (z.number ≡ 0 → ⊥) → of_read (read s) ≡ refused z.number
    unfolding judge
    numbered h = judged ∙ go z.number h
      where
        go : (n : ℕ) → (n ≡ 0 → ⊥) → judge p n ≡ refused n
        go zero h = absurd (h refl)
        go (suc n) h = refl

    pub passed : z.number ≡ 0 → of_read (read s) ≡ accepted p
    unfolding judge
    passed e = judged ∙ ap (judge p) e

    pub within : z.number ≡ 0 → Within p
    within e = ((number_accepted p).0 (sym number_is ∙ e)).0

    -- what is reported is what 01 counts
    pub counted : (z.steps ≡ total length p.steps) × (z.commands ≡ program_size p) × (z.depth ≡ program_depth p) × (z.structs ≡ length p.params)
    counted =
        let e = b.summed in (
          ap (λ (x : Summary). x.steps) e ∙ totals_count p,
          ap (λ (x : Summary). x.commands) e ∙ checked_commands p b.counts,
          ap (λ (x : Summary). x.depth) e ∙ checked_depth p b.counts,
          ap (λ (x : Summary). x.structs) e,
        )

    -- and it is small
    pub few : z.structs ≤ 16
    unfolding Counts
    few = omega (arith, counted.3, b.counts.0.1)

    pub small : z.number ≡ 0 → (z.steps < 256) × (z.commands < 65536) × (z.depth < 256)
    unfolding Counts Within program_depth
    small e =
        let w = within e in (
          omega (arith, counted.0, total_few (CountsStep (arities p)) p.steps b.counts.2, b.counts.1, b.counts.0.1),
          omega (arith, counted.1, w.1),
          omega (arith, counted.2, greatest_most (greatest (step_depth p)) p.steps (depths p.steps w.2)),
        )
      where
        depths : (tss : List (List Step)) → All (All (λ t. step_depth p t ≤ max_depth)) tss → All (λ ts. greatest (step_depth p) ts ≤ max_depth) tss
        depths [] h = tt
        depths (ts ∷ tss) h = (greatest_most (step_depth p) ts h.0, depths tss h.1)

    pub plan_is : z.plan ≡ schedule_place s p
    plan_is = ap (λ (x : Summary). x.plan) b.summed

    pub listed_is : (h : List ℕ) → ReadListed (read s) h → Listed h p
    listed_is h w = rw b.reads at w

    pub structs_are : z.structs ≡ length p.steps
    unfolding Counts
    structs_are = counted.3 ∙ sym b.counts.1

    -- Tables and places ------------------------------------------------------------------

    standing : Standing s 0 p
    standing = program_steps s 0 p b.end (whole_program s p b.end b.reads)

    behind_is : standing.behind ≡ k
    behind_is = sym (ap place_of standing.params) ∙ b.place

    -- which is the one behind the parameters
    pub here : read_params s 0 ≡ ok p.params k
    here = standing.params ∙ ap (λ (i : ℕ). ok p.params i) behind_is

    module _ (cs cs' ts ts' : List ℕ) (kept : ParamsKept cs cs' ts ts' (read_params s 0)) where
      pub table : take z.structs cs' ≡ arities p
      table =
          let w : cs' ≡ map length p.params ++ drop (length p.params) cs = (rw here at kept).0 in
          rw w (take_at (arities p) _ z.structs (length-map p.params length ∙ sym counted.3))
