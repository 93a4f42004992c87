-- The parts of a lent table are filled one after the other (02 §1): what stands in the table then.
use Rattle.std.specs.Prelude.{ℕ, ◌+◌, ◌≤◌, ◌<◌, ◌≡◌, List, length, set, take, drop}
use Rattle.std.proofs.Common.{arith, sym, ap, ◌∙◌, length-set, length-take, length-drop, get_or-set_same, get_or-set_other}
use Rattle.std.proofs.lemmas.List.Edits.{sets}
use Rattle.std.proofs.Math.Seq.{length-sets}
use Rattle.resolve.specs.Tables.{offsets}
use Rattle.uses.specs.Tabling.{structs_at, pars_at, steps_at, names_first, Front, Gathered, Laid}
use Rattle.uses.specs.Laws.PutLaws.{put, put_long, front_put, front_before, front_set}
use Rattle.text_shape.specs.RoleNames.{new_par_role}
use Rattle.types.specs.Limits.{max_structs, step_names}
use Rattle.uses.specs.Layout.{offsets_room, rows_room, offsets_place, pars_place, types_place, names_place, struct_count_place}
use Rattle.uses.specs.Layout.{name_count_place, table_size}

pub mid_long : (a k : ℕ) (l : List ℕ) → a + k ≤ length l → length (take k (drop a l)) ≡ k
mid_long a k l h = let i = length-take k (drop a l) in let j = length-drop a l in omega (arith, i, j, h)

stored_long : {p : List ℕ} (z v : List ℕ) (k : ℕ) → p ≡ sets z 0 v → length z ≡ k → length p ≡ k
stored_long z v k e f = ap length e ∙ length-sets z 0 v ∙ f

module _ (t p₁ p₂ p₃ p₄ : List ℕ) (s k : ℕ) where
  abbrev with_structs : List ℕ
  with_structs = put 0 max_structs t p₁

  abbrev with_rows : List ℕ
  with_rows = put offsets_place offsets_room with_structs p₂

  abbrev with_pars : List ℕ
  with_pars = put pars_place rows_room with_rows p₃

  abbrev with_names : List ℕ
  with_names = put names_place step_names with_pars p₄

  abbrev with_counts : List ℕ
  with_counts = set (set with_names struct_count_place s) name_count_place k

  module _ (text roles : List ℕ) (long : length t ≡ table_size) (e₁ : p₁ ≡ sets (take max_structs (drop 0 t)) 0 (structs_at roles))
      (e₂ : p₂ ≡ sets (take offsets_room (drop offsets_place with_structs)) 0 (offsets new_par_role roles))
      (e₃ : p₃ ≡ sets (take rows_room (drop pars_place with_rows)) 0 (pars_at roles))
      (e₄ : length p₄ ≡ length (take step_names (drop names_place with_pars))) where
    m₁ : length (take max_structs (drop 0 t)) ≡ max_structs
    m₁ = mid_long 0 max_structs t (omega (arith, long))

    n₁ : length p₁ ≡ max_structs
    n₁ = stored_long (take max_structs (drop 0 t)) (structs_at roles) max_structs e₁ m₁

    long₁ : length with_structs ≡ table_size
    long₁ = put_long 0 max_structs t p₁ (omega (arith, long)) n₁ ∙ long

    m₂ : length (take offsets_room (drop offsets_place with_structs)) ≡ offsets_room
    m₂ = mid_long offsets_place offsets_room with_structs (omega (arith, long₁))

    n₂ : length p₂ ≡ offsets_room
    n₂ = stored_long (take offsets_room (drop offsets_place with_structs)) (offsets new_par_role roles) offsets_room e₂ m₂

    long₂ : length with_rows ≡ table_size
    long₂ = put_long offsets_place offsets_room with_structs p₂ (omega (arith, long₁)) n₂ ∙ long₁

    m₃ : length (take rows_room (drop pars_place with_rows)) ≡ rows_room
    m₃ = mid_long pars_place rows_room with_rows (omega (arith, long₂))

    n₃ : length p₃ ≡ rows_room
    n₃ = stored_long (take rows_room (drop pars_place with_rows)) (pars_at roles) rows_room e₃ m₃

    long₃ : length with_pars ≡ table_size
    long₃ = put_long pars_place rows_room with_rows p₃ (omega (arith, long₂)) n₃ ∙ long₂

    m₄ : length (take step_names (drop names_place with_pars)) ≡ step_names
    m₄ = mid_long names_place step_names with_pars (omega (arith, long₃))

    n₄ : length p₄ ≡ step_names
    n₄ = e₄ ∙ m₄

    long₄ : length with_names ≡ table_size
    long₄ = put_long names_place step_names with_pars p₄ (omega (arith, long₃)) n₄ ∙ long₃

    counted_long : length (set with_names struct_count_place s) ≡ table_size
    counted_long = length-set with_names struct_count_place s ∙ long₄

    pub room_counted : name_count_place < length (set with_names struct_count_place s)
    room_counted = omega (arith, counted_long)

    pub laid_long : length with_counts ≡ length t
    laid_long = length-set (set with_names struct_count_place s) name_count_place k ∙ counted_long ∙ sym long

    -- what stands before the counts stays, and what stands before the names
    counted : (c d : ℕ) (v : List ℕ) → c ≤ d → d ≤ struct_count_place → Front with_names c d v → Front with_counts c d v
    counted c d v h i f = front_set (set with_names struct_count_place s) name_count_place k c d v h (omega (arith, i))
        (front_set with_names struct_count_place s c d v h i f)

    stays : (c d : ℕ) (v : List ℕ) → c ≤ d → d ≤ names_place → Front with_pars c d v → Front with_counts c d v
    stays c d v h i f = counted c d v h (omega (arith, i)) (front_before names_place step_names with_pars p₄ (omega (arith, long₃)) n₄ c d v h i f)

    laid_structs : Front with_counts 0 offsets_place (structs_at roles)
    laid_structs =
        stays 0 offsets_place (structs_at roles) (omega arith) (omega arith)
        (front_before pars_place rows_room with_rows p₃ (omega (arith, long₂)) n₃ 0 offsets_place (structs_at roles) (omega arith) (omega arith)
        (front_before offsets_place offsets_room with_structs p₂ (omega (arith, long₁)) n₂ 0 offsets_place (structs_at roles) (omega arith) (omega arith)
        (front_put 0 max_structs t p₁ (omega (arith, long)) n₁ (take max_structs (drop 0 t)) (structs_at roles) e₁ m₁)))

    laid_rows : Front with_counts offsets_place pars_place (offsets new_par_role roles)
    laid_rows =
        stays offsets_place pars_place (offsets new_par_role roles) (omega arith) (omega arith)
        (front_before pars_place rows_room with_rows p₃ (omega (arith, long₂)) n₃ offsets_place pars_place (offsets new_par_role roles) (omega arith)
        (omega arith)
        (front_put offsets_place offsets_room with_structs p₂ (omega (arith, long₁)) n₂ (take offsets_room (drop offsets_place with_structs))
        (offsets new_par_role roles) e₂ m₂))

    laid_pars : Front with_counts pars_place types_place (pars_at roles)
    laid_pars =
        stays pars_place types_place (pars_at roles) (omega arith) (omega arith)
        (front_put pars_place rows_room with_rows p₃ (omega (arith, long₂)) n₃ (take rows_room (drop pars_place with_rows)) (pars_at roles) e₃ m₃)

    module _ (c : s ≡ length (structs_at roles)) (g : Gathered text roles (take step_names (drop names_place with_pars)) p₄ k) where
      laid_names : length (steps_at roles) ≤ rows_room → Front with_counts names_place struct_count_place (names_first text roles)
      laid_names h =
          counted names_place struct_count_place (names_first text roles) (omega arith) (omega arith)
          (front_put names_place step_names with_pars p₄ (omega (arith, long₃)) n₄ (take step_names (drop names_place with_pars)) (names_first text roles)
          (g.stored h) m₄)

      pub laid_all : Laid text roles with_counts
      laid_all =
          record {
            long = laid_long ∙ long;
            count =
                get_or-set_other (set with_names struct_count_place s) name_count_place struct_count_place k 0 (λ e. omega (arith, e))
                ∙ get_or-set_same with_names struct_count_place s 0 (omega (arith, long₄)) ∙ c;
            structs = laid_structs;
            rows = laid_rows;
            pars = laid_pars;
            names_count = λ h. get_or-set_same (set with_names struct_count_place s) name_count_place k 0 room_counted ∙ g.count h;
            names = laid_names;
          }
