-- What the code has of a step that was read (01, 'Program stream').
use Rattle.std.specs.Prelude.{ℕ, ◌+◌, ◌<◌, ◌≡◌, List, [], length, get_or}
use Rattle.std.proofs.Common.{sym, ◌∙◌, append-nil}
use Rattle.types.specs.Limits.{step_names, if_levels}
use Rattle.program.specs.Tree.{Stmts}
use Rattle.program.specs.Reader.{Result.ok, pair, ranged, read_body, read_stmt, read_step}
use Rattle.program.proofs.Laws.PartLaws.{made_ok}
use Rattle.commands.specs.ProgramWords.{step_words}
use Rattle.emit.specs.Written.{Good, body_words, body_at}
use Rattle.emit.specs.Laws.ReadLaws.{made_value, pair_value, pair_ok, ranged_value}
use Rattle.emit.specs.Parts.{Part}
use Rattle.emit.specs.Laws.PartsLaws.{part_of}

-- a step is its name and its body
pub step_part : (ar s : List ℕ) (at : ℕ) → Good (read_step ar s at)
    → (at < length s) × (Part step_words (read_step ar s at) body_words (body_at ar s 8 (at + 1)) [])
unfolding read_step step_words body_words
step_part ar s at g =
    let q = made_value (λ p. record { name = p.0; body = p.1 }) (pair (ranged s 0 step_names at) λ n. read_body ar s (read_stmt ar s if_levels)) g in
    let v = pair_value (ranged s 0 step_names at) (λ n. read_body ar s (read_stmt ar s if_levels)) (rw q.2 tt) in
    go v.0 v.1 v.2 v.3 v.4 v.5
  where
    go : (n k : ℕ) (b : Stmts) (m : ℕ) → ranged s 0 step_names at ≡ ok n k → read_body ar s (read_stmt ar s if_levels) k ≡ ok b m
        → (at < length s) × (Part step_words (read_step ar s at) body_words (body_at ar s 8 (at + 1)) [])
    go n k b m e f =
        let r = ranged_value s 0 step_names at (rw e tt) in
        let u : ok n k ≡ ok (get_or s at 0) (at + 1) = sym e ∙ r.2 in
        let i : k ≡ at + 1 = cc in
        (r.0, part_of step_words body_words (made_ok _ (pair_ok (λ n. read_body ar s (read_stmt ar s if_levels)) e f)) (rw i at f) (sym (append-nil _)))
