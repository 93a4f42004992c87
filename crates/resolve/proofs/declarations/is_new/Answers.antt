-- `declarations::is_new` meets its contract.
use Rattle.std.proofs.Common.{ap, sym, ◌∙◌, ltb, not, take}
use Rattle.resolve.specs.Named.{name_at, names_at, sought}
use Rattle.resolve.specs.Laws.NamedLaws.{found_sought, new_found}
use Rattle.resolve.specs.Laws.FirstLaws.{take_long}
use Rattle.resolve.proofs.declarations.is_new.Goals as goal

pub slice_bounds-lookup-end : goal.slice_bounds-lookup-end
slice_bounds-lookup-end c = take_long c.args.table.now c.args.n c.requires

pub returns : goal.returns
returns c =
    new_found _ _ _ _ (found_sought _ _ _ _ c.lookup.ensures) c.is_none.ensures ∙ ap (λ n. not (ltb (sought (name_at c.args.text.now c.args.at) (names_at c.args.text.now (take c.args.n c.args.table.now))) n)) (sym (take_long c.args.table.now c.args.n c.requires))
