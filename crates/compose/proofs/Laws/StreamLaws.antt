-- The stream of a text (02 §1): what is composed of a text, by its places, its tables and the numbers of its names, is the stream of the program that it means
-- (01, 'Program stream'), and nothing where it means none or one that a stream does not hold (17).
use Rattle.std.specs.Prelude.{◌≡◌, Bool, true, false, ◌&&◌, length}
use Rattle.std.proofs.Math.Path.{refl, sym, ap}
use Rattle.std.proofs.Common.{◌∙◌, arith, leb-true, le-leb}
use mathlib.Core.List.{List, [], ◌++◌, map}
use Rattle.std.proofs.Math.Option.{Option, none, some}
use Prim.Native.Nat.{ℕ}
use Rattle.std.proofs.Math.Dec.{leb}
use Rattle.types.specs.Types.{code}
use Rattle.types.specs.Decides.{is_true}
use Rattle.program.specs.Tree.{Program}
use Rattle.program.specs.Counts.{All}
use Rattle.program.specs.Encoding.{enc_program}
use Rattle.tokens.proofs.Laws.ByteLaws.{both_true}
use Rattle.syntax.specs.Syntax.{Defs, Sched, Program as Derivation, Program.program}
use Rattle.syntax.specs.Bracketing.{FitsProgram}
use Rattle.meaning.specs.Scope.{structs_of}
use Rattle.meaning.specs.StepNames.{step_names}
use Rattle.meaning.specs.HoldsDecide.{holds}
use Rattle.meaning.proofs.Laws.HoldsDecideLaws.{decides_holds}
use Rattle.meaning.specs.Holds.{max_stream, Holds}
use Rattle.meaning.specs.Meant.{then, provided, meant}
use Rattle.meaning.specs.Means.{Means}
use Rattle.meaning.proofs.Laws.MeantComplete.{means_meant}
use Rattle.text_shape.specs.Roles.{roles}
use Rattle.resolve.specs.Tables.{offsets}
use Rattle.resolve.specs.Outcomes.{onto}
use Rattle.resolve.specs.Uses.{pass_start, uses_numbers}
use Rattle.resolve.specs.Standing.{Stood}
use Rattle.resolve.specs.Laws.DeclarationLaws.{row_bytes}
use Rattle.resolve.specs.WellDeclared.{tables_ok}
use Rattle.resolve.specs.Resolved.{resolved, program_numbers}
use Rattle.resolve.specs.Laws.ResolvedLaws.{Resolves, resolved_none, resolved_means}
use Rattle.compose.specs.Writing.{Writing.writing, counted, start}
use Rattle.compose.specs.Checks.{checks, stream_behind, numbers_of}
use Rattle.compose.specs.Fits.{writes_at}
use Rattle.compose.specs.Header.{header, Rows}
use Rattle.compose.specs.Composed.{of_writing, composed_by, type_bytes, composed}
use Rattle.compose.specs.Standing.{Inside}
use Rattle.compose.proofs.Laws.StandingLaws.{passed_inside, text_writes}
use Rattle.compose.proofs.Laws.HeldLaws.{held_checks, stream_split}
use Rattle.compose.specs.Ranged.{Ranged}
use Rattle.compose.proofs.Laws.RangedLaws.{ranged_holds}
use Rattle.compose.proofs.Laws.MeantRangedLaws.{meant_ranged}
use Rattle.compose.proofs.Laws.RowsLaws.{text_rows, header_meant}
use Rattle.text_shape.specs.RoleNames.{new_par_role}

-- What a stream holds -----------------------------------------------------------------------------------------

-- of a program in range it is what writing tested, and the bytes
pub holds_written : (p : Program) → Ranged p → (checks p && leb (length (enc_program p)) max_stream) ≡ holds p
holds_written p r = go (checks p && leb (length (enc_program p)) max_stream) refl (holds p) refl
  where
    go : (t : Bool) → (checks p && leb (length (enc_program p)) max_stream) ≡ t → (u : Bool) → holds p ≡ u
        → (checks p && leb (length (enc_program p)) max_stream) ≡ holds p
    go true e u f =
        let b = both_true (checks p) (leb (length (enc_program p)) max_stream) e in
        e ∙ sym (is_true (decides_holds p) (ranged_holds p r b.0 (leb-true (length (enc_program p)) max_stream b.1)))
    go false e true f =
        let h : Holds p = (decides_holds p).holds f in
        let g : (checks p && leb (length (enc_program p)) max_stream) ≡ true =
        rw (held_checks p h, le-leb (length (enc_program p)) max_stream h.fits) refl in
        g ∙ sym f
    go false e false f = e ∙ sym f

-- The stream -----------------------------------------------------------------------------------------------------

module _ (x cs : List ℕ) (d : Defs) (s : Sched) (st : Stood x cs (roles (program d s))) where
  -- the body: what is written of steps and schedule
  pub body_meant : FitsProgram (program d s) → (p : Program) → Means (program d s) p → All Inside (roles (program d s))
      → counted (writes_at x 0 cs (start (onto (numbers_of p) []))) ≡ writing (stream_behind p) [] [] 0 (checks p)
  unfolding counted
  body_meant f p m h =
      let w = text_writes x cs (program d s) f m st h in
      ap counted w.all ∙ ap (λ b. writing b [] [] 0 (checks p)) w.are

  -- both in a row
  pub composed_meant : FitsProgram (program d s) → (p : Program) → Means (program d s) p → All Inside (roles (program d s))
      → map (λ u. map code u) p.params ≡ map (row_bytes (structs_of d)) (structs_of d)
      → composed x cs (onto (numbers_of p) [])
      ≡ provided (checks p && leb (length (enc_program p)) max_stream) (some (enc_program p))
  unfolding composed composed_by of_writing provided
  composed_meant f p m h r =
      let head : List ℕ = header (offsets new_par_role cs) (type_bytes x cs) in
      let both : head ++ stream_behind p ≡ enc_program p =
      ap (λ a. a ++ stream_behind p) (header_meant x cs d s st p.params r) ∙ sym (stream_split p) in
      ap (of_writing head) (body_meant f p m h)
      ∙ ap (λ b. provided (checks p && leb (length b) max_stream) (some b)) both

  -- where resolve leaves numbers
  composed_told : FitsProgram (program d s) → (l : List ℕ) → resolved x cs ≡ some l
      → composed x cs l ≡ then (meant (program d s)) (λ p. provided (holds p) (some (enc_program p)))
  unfolding then program_numbers numbers_of uses_numbers
  composed_told f l e =
      let t = resolved_means x cs d s st l e in
      let p : Program = t.0 in
      let r : Resolves d s l p = t.1 in
      let k = r.declared in
      let inside : All Inside (roles (program d s)) =
      passed_inside (structs_of d) (step_names (structs_of d)) (roles (program d s)) (pass_start (structs_of d)) r.behind r.passed in
      let right : then (meant (program d s)) (λ q. provided (holds q) (some (enc_program q))) ≡ provided (holds p) (some (enc_program p)) =
      ap (λ o. then o (λ q. provided (holds q) (some (enc_program q)))) (means_meant r.means) in
      ap (composed x cs) (sym r.numbers)
      ∙ composed_meant f p r.means inside r.types
      ∙ ap (λ b. provided b (some (enc_program p))) (holds_written p (meant_ranged r.means k.structs k.params k.names r.locals))
      ∙ sym right

  stream_told : FitsProgram (program d s)
      → then (resolved x cs) (λ l. composed x cs l) ≡ then (meant (program d s)) (λ p. provided (holds p) (some (enc_program p)))
  unfolding then
  stream_told f = go (resolved x cs) refl
    where
      go : (o : Option (List ℕ)) → resolved x cs ≡ o
          → then o (λ l. composed x cs l) ≡ then (meant (program d s)) (λ p. provided (holds p) (some (enc_program p)))
      go none e = sym (resolved_none x cs d s st (λ p. some (enc_program p)) e)
      go (some l) e = composed_told f l e

-- the stream of a text is that of the program that it means, where a stream holds it
pub stream_meant : (x cs : List ℕ) (c : Derivation) → FitsProgram c → Stood x cs (roles c)
    → then (resolved x cs) (λ l. composed x cs l) ≡ then (meant c) (λ p. provided (holds p) (some (enc_program p)))
stream_meant x cs (program d s) f st = stream_told x cs d s st f

-- The tables -------------------------------------------------------------------------------------------------------

-- where resolve leaves numbers, the tables of parameters are rows
pub resolved_rows : (x cs l : List ℕ) (c : Derivation) → Stood x cs (roles c) → resolved x cs ≡ some l → Rows (offsets new_par_role cs) (type_bytes x cs)
unfolding resolved provided
resolved_rows x cs l (program d s) st e = text_rows x cs d s st (so (tables_ok x cs) _ e)
  where
    so : (t : Bool) (o : Option (List ℕ)) → provided t o ≡ some l → t ≡ true
    so true o g = refl
    so false o g = absurd (let z : ◌≡◌ {A = ℕ} 0 1 = cc in omega arith)
