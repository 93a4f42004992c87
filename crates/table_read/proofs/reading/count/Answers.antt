-- `reading::count` meets its contract: no two bytes, too many records, N.
use Rattle.std.proofs.Common.{◌+◌, ◌<◌, ◌≤◌, ◌≡◌, sym, ◌∙◌, arith}
use Rattle.types.specs.Limits.{max_instances}
use Rattle.little_endian.specs.Numbers.{number_at}
use Rattle.little_endian.specs.NumberLaws.{pair_is}
use Rattle.table_read.specs.Laws.TableWays.{count_cut, count_wrong, count_right}
use Rattle.table_read.proofs.reading.count.Goals as goal

pub returns-then-s-lt2 : goal.returns-then-s-lt2
returns-then-s-lt2 c =
    let args = c.args in
    record { value = λ pss e. count_cut args.s.now (λ i. (c.type_inv.s i).fits) pss c.if-s-lt2.true; counted = tt }

pub returns-then-structs-n : goal.returns-then-structs-n
returns-then-structs-n c =
    let args = c.args in
    let n = c.pair_at-n.result in
    let is : n ≡ number_at 2 args.s.now 0 = c.pair_at-n.ensures.0 ∙ sym (pair_is args.s.now 0) in
    let over : max_instances < n + args.structs = omega (arith, c.if-structs-n.true) in
    record { value = λ pss e. count_wrong args.s.now (λ i. (c.type_inv.s i).fits) pss c.if-s-lt2.false n is (rw e over); counted = tt }

pub returns : goal.returns
returns c =
    let args = c.args in
    let n = c.pair_at-n.result in
    let is : n ≡ number_at 2 args.s.now 0 = c.pair_at-n.ensures.0 ∙ sym (pair_is args.s.now 0) in
    let room : n + args.structs ≤ max_instances = omega (arith, c.if-structs-n.false, c.requires) in record { value = λ pss e. count_right args.s.now (λ i. (c.type_inv.s i).fits) pss c.if-s-lt2.false n is (rw e room); counted = (c.if-s-lt2.false, room) }
