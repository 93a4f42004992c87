-- The tables of a program's parameters, as the reader of its parameter lists leaves them, hold its parameters (01, 'Program stream').
use Rattle.std.specs.Prelude.{ℕ, suc, ◌+◌, ◌*◌, ◌<◌, ◌≤◌, ◌≡◌, refl, List, [], ◌∷◌, map, length, get_or}
use Rattle.std.proofs.Common.{arith, ap, ◌∙◌, ext_get_or}
use Rattle.std.proofs.lemmas.List.{length-map}
use Rattle.std.proofs.Math.ListN.{get_or-map}
use Rattle.types.specs.Limits.{max_structs, max_params}
use Rattle.types.specs.Types.{Ty, Ty.int, code}
use Rattle.types.proofs.Laws.TypeLaws.{type_of_code}
use Rattle.program.specs.Counts.{All}
use Rattle.table.proofs.Laws.SizeLaws.{few_params}
use Rattle.judge.specs.ProgramFacts.{types_table}
use Rattle.judge.proofs.Laws.ProgramTableLaws.{types_at}
use Rattle.read_params.specs.ParamsWays.{table_length}
use Rattle.table_read.specs.Params.{types_from, lists_of, Tables}
use Rattle.table_read.specs.Laws.ParamsLaws.{lists_length, list_is}

-- the types whose bytes stand at the places
types_are : (ts : List ℕ) (i : ℕ) (l : List Ty) → ((x : ℕ) → x < length l → get_or ts (i + x) 0 ≡ code (get_or l x int)) → types_from ts i (length l) ≡ l
unfolding types_from
types_are ts i [] f = refl
types_are ts i (t ∷ l) f =
    let z : i + 0 ≡ i = omega arith in
    let e : get_or ts i 0 ≡ code t = rw z at (f 0 (omega arith)) in
    rw (e, type_of_code t)
    (ap (λ r. t ∷ r) (types_are ts (suc i) l λ x h. let w : i + suc x ≡ suc i + x = omega arith in rw w at (f (suc x) (omega arith))))

module _ (pss : List (List Ty)) (few : All (λ ps. length ps ≤ max_params) pss) where
  -- the parameters of each struct are read back off the tables
  pub params_back : lists_of (map length pss) (types_table pss) ≡ pss
  params_back =
      ext_get_or [] (lists_of (map length pss) (types_table pss)) pss
      (lists_length (types_table pss) 0 (map length pss) ∙ length-map pss length)
      λ k h. list_is (map length pss) (types_table pss) k
      ∙ ap (types_from (types_table pss) (max_params * k)) (get_or-map length pss k [])
      ∙ types_are (types_table pss) (max_params * k) (get_or pss k []) (λ x l. types_at pss few k x l)

  -- and the tables are within their limits
  pub params_tables : length pss ≤ max_structs → Tables (map length pss) (types_table pss)
  params_tables h =
      let n : length (map length pss) ≡ length pss = length-map pss length in
      record {
        few = omega arith;
        long = omega (arith, table_length pss);
        each = λ k. rw (get_or-map length pss k []) (few_params max_params pss few k);
      }
