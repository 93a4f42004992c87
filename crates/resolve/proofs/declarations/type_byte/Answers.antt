-- `declarations::type_byte` meets its contract.
use Rattle.std.proofs.Common.{◌+◌, ap, ◌∙◌, arith}
use Rattle.resolve.specs.Named.{name_at}
use Rattle.resolve.specs.Laws.NamedLaws.{found_sought, found_or_length}
use Rattle.resolve.specs.Laws.CheckLaws.{byte_small, byte_named, sought_within}
use Rattle.resolve.proofs.declarations.type_byte.Goals as goal

pub returns-then-n-le-BOOL : goal.returns-then-n-le-BOOL
returns-then-n-le-BOOL c = c.from.ensures ∙ byte_small _ _ c.args.n (omega (arith, c.if-n-le-BOOL.true))

pub overflow_add-result : goal.overflow_add-result
overflow_add-result c =
    omega (
      arith,
      c.unwrap_or.ensures,
      found_or_length _ _ _ (found_sought _ _ _ _ c.lookup.ensures),
      sought_within
          (name_at c.args.text.now c.args.at)
          c.args.text.now c.args.structs.now,
      c.requires,
    )

pub returns : goal.returns
returns c = ap (λ k. k + c.unwrap_or.result) c.from-2.ensures ∙ byte_named _ _ _ _ (omega (arith, c.if-n-le-BOOL.false)) (c.unwrap_or.ensures ∙ found_or_length _ _ _ (found_sought _ _ _ _ c.lookup.ensures))
