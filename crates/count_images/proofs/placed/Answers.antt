-- `placed` meets its contract: a law of each way out.
use Rattle.std.proofs.Common.{arith, ◌≡◌, sym, ap, subst, ◌∙◌, ◌≤◌, ◌<◌, ◌+◌, ◌*◌, get_or}
use Rattle.types.specs.Limits.{max_params}
use Rattle.layout.specs.Layout.{head, struct_of}
use Rattle.count_images.specs.Laws.AskingLaws.{label_absent, param_absent, no_bool, a_bool}
use Rattle.count_images.proofs.placed.Goals as goal

pub returns-then-count-q : goal.returns-then-count-q
returns-then-count-q c =
    let a = c.args in sym (label_absent a.heads.now a.p.counts.now a.p.types.now a.count a.q.label a.q.parameter c.if-count-q.true)

pub head-k-requires : goal.head-k-requires
head-k-requires c = omega (arith, c.requires.long, c.if-count-q.false)

pub bounds-p-k : goal.bounds-p-k
bounds-p-k c = omega (arith, c.requires.known c.args.q.label c.if-count-q.false, c.head-k.ensures.0)

pub overflow_cast-p : goal.overflow_cast-p
overflow_cast-p c = omega (arith, c.requires.tables.each c.head-k.result)

pub returns-then-p-k : goal.returns-then-p-k
returns-then-p-k c =
    let a = c.args in
    sym
    (param_absent a.heads.now a.p.counts.now a.p.types.now a.count a.q.label a.q.parameter c.if-count-q.false
    (subst (λ k. get_or a.p.counts.now k 0 ≤ a.q.parameter) c.head-k.ensures.0 c.if-p-k.true))

pub overflow_add-at : goal.overflow_add-at
overflow_add-at c = omega (arith, c.requires.tables.each c.head-k.result, c.if-p-k.false, c.head-k.ensures.1)

pub bounds-p-at : goal.bounds-p-at
bounds-p-at c =
    omega (
      arith,
      c.requires.tables.each c.head-k.result,
      c.if-p-k.false,
      c.requires.tables.long,
      c.requires.known c.args.q.label c.if-count-q.false,
      c.head-k.ensures.0,
    )

pub returns-then-p-at-ne-BOOL : goal.returns-then-p-at-ne-BOOL
returns-then-p-at-ne-BOOL c =
    let few' : c.args.q.parameter < get_or c.args.p.counts.now (get_or c.args.heads.now (head c.args.q.label struct_of) 0) 0 = subst (λ k. c.args.q.parameter < get_or c.args.p.counts.now k 0) c.head-k.ensures.0 c.if-p-k.false in
    let a = c.args in
    sym
    (no_bool a.heads.now a.p.counts.now a.p.types.now a.count a.q.label a.q.parameter c.if-count-q.false few'
    (λ w. c.if-p-at-ne-BOOL.true (ap (λ k. get_or a.p.types.now (max_params * k + a.q.parameter) 0) c.head-k.ensures.0 ∙ w)))

pub returns : goal.returns
returns c =
    let few' : c.args.q.parameter < get_or c.args.p.counts.now (get_or c.args.heads.now (head c.args.q.label struct_of) 0) 0 = subst (λ k. c.args.q.parameter < get_or c.args.p.counts.now k 0) c.head-k.ensures.0 c.if-p-k.false in
    let a = c.args in
    sym
    (a_bool a.heads.now a.p.counts.now a.p.types.now a.count a.q.label a.q.parameter c.if-count-q.false few'
    (sym (ap (λ k. get_or a.p.types.now (max_params * k + a.q.parameter) 0) c.head-k.ensures.0) ∙ c.if-p-at-ne-BOOL.false))
