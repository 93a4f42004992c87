-- `answered` meets its contract: 7, 21, 8 and 24 in order, or the counts of the started step.
use Rattle.std.proofs.Common.{arith, ap, refl, ◌≤◌, ◌<◌, ◌≡◌, sym, ◌∙◌, true, false, List, length}
use Rattle.std.proofs.lemmas.List.{length-replicate}
use Rattle.std.proofs.lemmas.Result.{err_from_is_err_and}
use Rattle.program.specs.Tree.{Program}
use Rattle.commands.specs.Decide.NamesDecide.{stepped}
use Rattle.table.specs.Table.{Record}
use Rattle.orders.specs.StepAnswer.{alone}
use Rattle.orders.proofs.Laws.StepAnswerLaws.{stepped_had}
use Rattle.counts.specs.CountEntry.{type_at, started_commands, count_machine}
use Rattle.count_images.specs.Answers.{Subject, why}
use Rattle.count_images.specs.Laws.RefusalLaws.{number_above}
use Rattle.count_images.specs.Laws.AskingLaws.{place_told}
use Rattle.count_images.specs.Laws.StartLaws.{accepted, compilable, has_is, askable, place_is, few_instances, rows, started_total, started_stood, started_countable}
use Rattle.count_images.specs.Laws.AnswerLaws.{high_not_stepped, no_step, no_place, truth_typed, many, few, question_refused, question_counted}
use Rattle.count_images.proofs.answered.Goals as goal

pub prepared-requires : goal.prepared-requires
prepared-requires c =
    compilable c.requires.2 _ _ (simp length-replicate (omega arith)) (simp length-replicate (omega arith))

pub returns-then-q-ge-STEP_NAMES-clause-questioned : goal.returns-then-q-ge-STEP_NAMES-clause-questioned
returns-then-q-ge-STEP_NAMES-clause-questioned c =
    let q = c.args.a.question in
    λ p rs u. question_refused p rs q.name q.label q.parameter
    (no_step p rs q.name q.label q.parameter (high_not_stepped p q.name (accepted u) c.if-q-ge-STEP_NAMES.true)) refl

pub has_step-requires : goal.has_step-requires
has_step-requires c =
    let a = askable c.requires.2 {list = _} {list' = _} {spans = _} (simp length-replicate (omega arith)) c.prepared.ensures in
    (omega (arith, c.prepared.auto.spans, simp length-replicate at c.prepared.auto.spans), a.tables.few, c.if-q-ge-STEP_NAMES.false)

pub returns-then-not-has_step-clause-questioned : goal.returns-then-not-has_step-clause-questioned
returns-then-not-has_step-clause-questioned c =
    let SubjectAt' : Program → List Record → Type 0 = λ p rs. let x = c.args in Subject x.s.now x.p.counts.now x.p.types.now x.rows.now x.a x.heads.now x.cells.now p rs in
    let had_at' : (p : Program) (rs : List Record) → SubjectAt' p rs → c.has_step.result ≡ stepped c.args.a.question.name p.steps = λ p rs u. c.has_step.ensures ∙ has_is u (simp length-replicate (omega arith)) c.prepared.ensures c.args.a.question.name c.if-q-ge-STEP_NAMES.false in
    let q = c.args.a.question in
    λ p rs u. question_refused p rs q.name q.label q.parameter
    (no_step p rs q.name q.label q.parameter (sym (had_at' p rs u) ∙ c.if-not-has_step.true)) refl

-- The place ------------------------------------------------------------------------------------
pub placed-requires : goal.placed-requires
placed-requires c = askable c.requires.2 (simp length-replicate (omega arith)) c.prepared.ensures

pub returns-in_err-placed-clause-questioned : goal.returns-in_err-placed-clause-questioned
returns-in_err-placed-clause-questioned c =
    let SubjectAt' : Program → List Record → Type 0 = λ p rs. let x = c.args in Subject x.s.now x.p.counts.now x.p.types.now x.rows.now x.a x.heads.now x.cells.now p rs in
    let had_at' : (p : Program) (rs : List Record) → SubjectAt' p rs → c.has_step.result ≡ stepped c.args.a.question.name p.steps = λ p rs u. c.has_step.ensures ∙ has_is u (simp length-replicate (omega arith)) c.prepared.ensures c.args.a.question.name c.if-q-ge-STEP_NAMES.false in
    let stepped_at' : (p : Program) (rs : List Record) → SubjectAt' p rs → stepped c.args.a.question.name p.steps ≡ true = λ p rs u. sym (had_at' p rs u) ∙ c.if-not-has_step.false in
    let told_at' : (p : Program) (rs : List Record) → SubjectAt' p rs → place_told (type_at p rs c.args.a.question.label c.args.a.question.parameter) ≡ why c.placed.result = λ p rs u. sym (c.placed.ensures ∙ place_is u (simp length-replicate (omega arith)) c.prepared.ensures _ _) in
    let q = c.args.a.question in
    let e = err_from_is_err_and c.from_residual.result c.from_residual.ensures.1 in
    rw (e.1, e.2)
    (λ p rs u. question_refused p rs q.name q.label q.parameter
    (no_place p rs q.name q.label q.parameter (stepped_at' p rs u) _ (told_at' p rs u ∙ ap why c.in_err-placed.was) (number_above _)) refl)

-- The start ------------------------------------------------------------------------------------
pub begin_all-requires : goal.begin_all-requires
begin_all-requires c =
    record { spans_size_in_bounds = omega (arith, simp length-replicate at c.prepared.auto.spans); rows = rows c.requires.2 (simp length-replicate (omega arith)) c.prepared.ensures }

pub commands-requires : goal.commands-requires
commands-requires c =
    let heads_long' : length c.begin_all.new.heads ≡ length c.args.heads.now = c.begin_all.auto.heads in
    let u = c.requires.2 in (
      omega (arith, heads_long', (askable u (simp length-replicate (omega arith)) c.prepared.ensures).long),
      few_instances u (simp length-replicate (omega arith)) c.prepared.ensures,
    )

pub returns-then-commands-gt-MOST-clause-questioned : goal.returns-then-commands-gt-MOST-clause-questioned
returns-then-commands-gt-MOST-clause-questioned c =
    let SubjectAt' : Program → List Record → Type 0 = λ p rs. let x = c.args in Subject x.s.now x.p.counts.now x.p.types.now x.rows.now x.a x.heads.now x.cells.now p rs in
    let had_at' : (p : Program) (rs : List Record) → SubjectAt' p rs → c.has_step.result ≡ stepped c.args.a.question.name p.steps = λ p rs u. c.has_step.ensures ∙ has_is u (simp length-replicate (omega arith)) c.prepared.ensures c.args.a.question.name c.if-q-ge-STEP_NAMES.false in
    let stepped_at' : (p : Program) (rs : List Record) → SubjectAt' p rs → stepped c.args.a.question.name p.steps ≡ true = λ p rs u. sym (had_at' p rs u) ∙ c.if-not-has_step.false in
    let told_at' : (p : Program) (rs : List Record) → SubjectAt' p rs → place_told (type_at p rs c.args.a.question.label c.args.a.question.parameter) ≡ why c.placed.result = λ p rs u. sym (c.placed.ensures ∙ place_is u (simp length-replicate (omega arith)) c.prepared.ensures _ _) in
    let typed_at' : (p : Program) (rs : List Record) → SubjectAt' p rs → place_told (type_at p rs c.args.a.question.label c.args.a.question.parameter) ≡ 0 = λ p rs u. told_at' p rs u ∙ ap why c.in_ok-placed.was in
    let total_at' : (p : Program) (rs : List Record) → SubjectAt' p rs → c.commands.result ≡ started_commands p rs c.args.a.question.name = λ p rs u. c.commands.ensures ∙ started_total u (simp length-replicate (omega arith)) c.prepared.ensures _ c.if-q-ge-STEP_NAMES.false (stepped_had _ p.steps (stepped_at' p rs u)) _ c.begin_all.ensures in
    let q = c.args.a.question in
    λ p rs u. question_refused p rs q.name q.label q.parameter
    (many p rs q.name q.label q.parameter (stepped_at' p rs u) (typed_at' p rs u) (omega (arith, total_at' p rs u, c.if-commands-gt-MOST.true)))
    refl

pub holding-requires : goal.holding-requires
holding-requires c =
    let heads_long' : length c.begin_all.new.heads ≡ length c.args.heads.now = c.begin_all.auto.heads in
    omega (arith, heads_long', (askable c.requires.2 (simp length-replicate (omega arith)) c.prepared.ensures).long)

-- The counts -----------------------------------------------------------------------------------
pub all-t-requires : goal.all-t-requires
all-t-requires c =
    let SubjectAt' : Program → List Record → Type 0 = λ p rs. let x = c.args in Subject x.s.now x.p.counts.now x.p.types.now x.rows.now x.a x.heads.now x.cells.now p rs in
    let had_at' : (p : Program) (rs : List Record) → SubjectAt' p rs → c.has_step.result ≡ stepped c.args.a.question.name p.steps = λ p rs u. c.has_step.ensures ∙ has_is u (simp length-replicate (omega arith)) c.prepared.ensures c.args.a.question.name c.if-q-ge-STEP_NAMES.false in
    let stepped_at' : (p : Program) (rs : List Record) → SubjectAt' p rs → stepped c.args.a.question.name p.steps ≡ true = λ p rs u. sym (had_at' p rs u) ∙ c.if-not-has_step.false in
    let told_at' : (p : Program) (rs : List Record) → SubjectAt' p rs → place_told (type_at p rs c.args.a.question.label c.args.a.question.parameter) ≡ why c.placed.result = λ p rs u. sym (c.placed.ensures ∙ place_is u (simp length-replicate (omega arith)) c.prepared.ensures _ _) in
    let typed_at' : (p : Program) (rs : List Record) → SubjectAt' p rs → place_told (type_at p rs c.args.a.question.label c.args.a.question.parameter) ≡ 0 = λ p rs u. told_at' p rs u ∙ ap why c.in_ok-placed.was in
    let q = c.args.a.question in let p = c.requires.0 in let rs = c.requires.1 in let u = c.requires.2 in
    let yes = stepped_at' p rs u in
    started_countable u (simp length-replicate (omega arith)) c.prepared.ensures q.name c.if-q-ge-STEP_NAMES.false (stepped_had q.name p.steps yes) _
    c.begin_all.ensures _ c.holding.ensures _ (truth_typed p rs q.name q.label q.parameter yes (typed_at' p rs u))
    (omega (arith, c.commands.ensures, c.if-commands-gt-MOST.false))

pub returns-clause-questioned : goal.returns-clause-questioned
returns-clause-questioned c =
    let SubjectAt' : Program → List Record → Type 0 = λ p rs. let x = c.args in Subject x.s.now x.p.counts.now x.p.types.now x.rows.now x.a x.heads.now x.cells.now p rs in
    let had_at' : (p : Program) (rs : List Record) → SubjectAt' p rs → c.has_step.result ≡ stepped c.args.a.question.name p.steps = λ p rs u. c.has_step.ensures ∙ has_is u (simp length-replicate (omega arith)) c.prepared.ensures c.args.a.question.name c.if-q-ge-STEP_NAMES.false in
    let stepped_at' : (p : Program) (rs : List Record) → SubjectAt' p rs → stepped c.args.a.question.name p.steps ≡ true = λ p rs u. sym (had_at' p rs u) ∙ c.if-not-has_step.false in
    let told_at' : (p : Program) (rs : List Record) → SubjectAt' p rs → place_told (type_at p rs c.args.a.question.label c.args.a.question.parameter) ≡ why c.placed.result = λ p rs u. sym (c.placed.ensures ∙ place_is u (simp length-replicate (omega arith)) c.prepared.ensures _ _) in
    let typed_at' : (p : Program) (rs : List Record) → SubjectAt' p rs → place_told (type_at p rs c.args.a.question.label c.args.a.question.parameter) ≡ 0 = λ p rs u. told_at' p rs u ∙ ap why c.in_ok-placed.was in
    let total_at' : (p : Program) (rs : List Record) → SubjectAt' p rs → c.commands.result ≡ started_commands p rs c.args.a.question.name = λ p rs u. c.commands.ensures ∙ started_total u (simp length-replicate (omega arith)) c.prepared.ensures _ c.if-q-ge-STEP_NAMES.false (stepped_had _ p.steps (stepped_at' p rs u)) _ c.begin_all.ensures in
    let q = c.args.a.question in
    λ p rs u. let yes = stepped_at' p rs u in let typed = typed_at' p rs u in
    question_counted p rs q.name q.label q.parameter
    (few p rs q.name q.label q.parameter yes typed (omega (arith, total_at' p rs u, c.if-commands-gt-MOST.false))) c.all-t.result
    (c.all-t.ensures.tallies (alone p q.name) (count_machine p rs q.name)
    (started_stood u (simp length-replicate (omega arith)) c.prepared.ensures q.name c.if-q-ge-STEP_NAMES.false (stepped_had q.name p.steps yes) _
    c.begin_all.ensures _ c.holding.ensures _ (truth_typed p rs q.name q.label q.parameter yes typed)))
