-- `write` meets its contract, one return for a parameter of a null instance, one for another parameter, one for a local.
use Rattle.std.proofs.Common.{arith}
use Rattle.execute_variables.specs.VarWays.{struct_read, null_way, param_way, local_way}
use Rattle.execute_variables.proofs.write.Goals as goal

pub bounds-counts-k : goal.bounds-counts-k
bounds-counts-k c =
    let k = struct_read c.args.heads.now c.args.cells.now c.args.a c.operand-r.ensures.0 c.head-k.ensures.0 in
    rw (← k) at c.requires.wr_fit.struct

pub overflow_cast-counts : goal.overflow_cast-counts
overflow_cast-counts c = omega (arith, c.type_inv.counts c.head-k.result)

pub returns-then-r-counts : goal.returns-then-r-counts
returns-then-r-counts c =
    let k = struct_read c.args.heads.now c.args.cells.now c.args.a c.operand-r.ensures.0 c.head-k.ensures.0 in
    null_way c.args.counts.now c.requires.acting c.args.x c.go.ensures (rw k at c.if-x-counts.true) (rw c.operand-r.ensures.0 at c.if-r-counts.true)

pub returns-then-x-counts : goal.returns-then-x-counts
returns-then-x-counts c =
    let k = struct_read c.args.heads.now c.args.cells.now c.args.a c.operand-r.ensures.0 c.head-k.ensures.0 in
    let r = c.operand-r.ensures.0 in
    param_way c.args.counts.now c.requires.acting c.args.x (rw r at c.replace.ensures.cells_after) (rw r at c.replace.ensures.value)
    c.go.ensures (rw k at c.if-x-counts.true) (rw r at c.if-r-counts.false)

pub returns : goal.returns
returns c =
    let k = struct_read c.args.heads.now c.args.cells.now c.args.a c.operand-r.ensures.0 c.head-k.ensures.0 in
    local_way c.args.counts.now c.requires.acting c.args.x (rw c.operand-r.ensures.0) c.go.ensures (rw k at c.if-x-counts.false)
