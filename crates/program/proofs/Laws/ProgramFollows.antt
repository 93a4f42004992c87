-- Programs follow the fronts of their encodings (01, 4 and 5 of 'Numbers from the input').
use Rattle.std.specs.Prelude.{ℕ, ◌<◌, ◌≤◌, refl, List, [], ◌∷◌, map, length}
use Rattle.std.proofs.Common.{arith, append_assoc}
use Rattle.std.proofs.lemmas.List.{length-map}
use Rattle.types.specs.Limits.{max_structs, max_params, max_steps, expr_levels}
use Rattle.types.specs.Types.{Ty, code, IsType}
use Rattle.program.specs.Tree.{Step, Program}
use Rattle.program.specs.Encoding.{flat, enc_list, enc_step, enc_program}
use Rattle.program.specs.Levels.{all_at, levels_step, levels_program}
use Rattle.program.specs.Counts.{All, Few, CountsStep, CountsStepTo, CountsTo, Counts}
use Rattle.program.specs.Reader.{many, read_params, read_steps, read_program}
use Rattle.program.proofs.Laws.JoinLaws.{AllOf, row_exact, flat_row, list_exact}
use Rattle.program.proofs.Laws.WordLaws.{type_exact}
use Rattle.program.proofs.Laws.StmtLaws.{steps_exact}
use Rattle.program.proofs.Laws.ProgramLaws.{params_exact}
use Rattle.program.specs.Follows.{Follows}
use Rattle.program.proofs.Laws.FollowsLaws.{made_follows, pair_follows, row_follows, list_at}
use Rattle.program.proofs.Laws.WordFollows.{type_follows}
use Rattle.program.proofs.Laws.StmtFollows.{one_more, steps_wider, steps_follows}
use Rattle.program.proofs.Laws.ItemFollows.{schedule_follows}

outside : 0 ≤ expr_levels
outside = omega arith

abbrev enc_types : List Ty → List ℕ
enc_types ts = enc_list (λ t. code t ∷ []) ts

-- for each struct its parameters' types
params_follows : Follows expr_levels (λ ts. Few 1 max_structs (Few 0 max_params (IsType (length ts))) ts) (enc_list enc_types)
    (λ ts. all_at 0 (enc_list enc_types ts)) read_params
unfolding read_params
params_follows =
    list_at expr_levels outside 1 max_structs (omega arith) (λ S. list_exact 0 max_params λ i. type_exact S) λ S.
    list_at expr_levels outside 0 max_params (omega arith) (λ i. type_exact S) λ i. type_follows expr_levels 0 outside S

-- the steps of i structs
structs_wider : (ar : List ℕ) (i : ℕ) (l : List (List Step)) → AllOf (Few 0 max_steps (CountsStep ar)) i l
    → AllOf (Few 0 max_steps (CountsStepTo one_more ar)) i l
structs_wider ar i l c = (c.0, go l c.1)
  where
    go : (l : List (List Step)) → All (Few 0 max_steps (CountsStep ar)) l → All (Few 0 max_steps (CountsStepTo one_more ar)) l
    go [] c = tt
    go (ts ∷ l) c = (steps_wider ar ts c.0, go l c.1)

structs_follow : (ar : List ℕ) → 0 < length ar → (i : ℕ)
    → Follows expr_levels (AllOf (Few 0 max_steps (CountsStepTo one_more ar)) i) (flat (enc_list enc_step)) (flat (λ ts. 0 ∷ flat levels_step ts))
    (λ s. many [] ◌∷◌ (read_steps ar s) i)
unfolding flat
structs_follow ar h i =
    row_follows expr_levels (steps_exact ar) (λ ts c. steps_wider ar ts c) (steps_follows ar h) (flat_row _ _)
    (λ i. flat (λ ts. 0 ∷ flat levels_step ts)) refl (λ i ts l c. refl) i

-- a program within the counts has a level more to go on in
pub counts_wider : (p : Program) → Counts p → CountsTo one_more p
unfolding Counts
counts_wider p c = (c.0, c.1, (structs_wider (map length p.params) (length p.params) p.steps (c.1, c.2)).1, c.3)

-- the reader of programs asks for a further byte only where a program goes on, and refuses a program's byte only for its level
pub program_follows : Follows expr_levels (CountsTo one_more) enc_program levels_program read_program
unfolding read_program CountsTo enc_program levels_program
program_follows =
    made_follows expr_levels
    (pair_follows expr_levels params_exact (λ ts c. c) params_follows λ ts c.
    let h : 0 < length (map length ts) = omega (arith, c.0, length-map ts length) in
    pair_follows expr_levels (row_exact (steps_exact (map length ts)) (flat_row _ _) (length ts)) (structs_wider (map length ts) (length ts))
    (structs_follow (map length ts) h (length ts)) λ ss c.
    schedule_follows (map length ts) h expr_levels)
    (λ p. record { params = p.0; steps = p.1.0; schedule = p.1.1 }) (λ p. (p.params, (p.steps, p.schedule)))
    (λ p h. ((h.0, h.1.0.0, h.1.0.1, h.1.1), rw append_assoc, rw append_assoc))
    (λ p h. ((h.0, ((h.1, h.2), h.3)), refl))
