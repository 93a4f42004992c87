-- The words of an accepted program's list determine its commands (01, 'Names, types, commands'), whatever the list held before.
use Rattle.std.specs.Prelude.{ℕ, ◌≡◌, List, [], ◌∷◌, map, length, take, drop}
use Rattle.std.proofs.Math.Path.{ap}
use Rattle.std.proofs.Common.{◌∙◌}
use Rattle.std.proofs.Math.Option.{some}
use Rattle.std.proofs.Math.Seq.{take-append_seam}
use Rattle.program.specs.Tree.{Step, Program}
use Rattle.program.specs.Counts.{All, Counts}
use Rattle.commands.specs.Bounds.{step_list, Within}
use Rattle.commands.specs.ProgramWords.{steps_list, structs_list, structs_words, program_words}
use Rattle.commands.specs.Decoding.{decode, InRanges}
use Rattle.commands.proofs.Laws.CodingLaws.{decode_words, words_injective}
use Rattle.commands.proofs.Laws.RangeLaws.{all_append, StepRanged, program_ranged}
use Rattle.verdict.specs.Verdict.{listed}

steps_ranged : (ts : List Step) → All StepRanged ts → All InRanges (steps_list ts)
unfolding steps_list
steps_ranged [] h = tt
steps_ranged (t ∷ ts) h = all_append InRanges (step_list t) (steps_list ts) h.0 (steps_ranged ts h.1)

structs_ranged : (tss : List (List Step)) → All (All StepRanged) tss → All InRanges (structs_list tss)
unfolding structs_list
structs_ranged [] h = tt
structs_ranged (ts ∷ tss) h = all_append InRanges (steps_list ts) (structs_list tss) (steps_ranged ts h.0) (structs_ranged tss h.1)

module _ (p : Program) (counts : Counts p) (within : Within p) where
  -- the program's places of the list say its commands
  pub listed_decoded : (list : List ℕ) → map decode (take (length (program_words p)) (listed p list)) ≡ map some (structs_list p.steps)
  unfolding listed program_words structs_words
  listed_decoded list =
      ap (map decode) (take-append_seam (program_words p) (drop (length (program_words p)) list))
      ∙ decode_words (structs_list p.steps) (structs_ranged p.steps (program_ranged p counts within))

  -- two programs with the same words have the same commands
  pub words_determine : (q : Program) → Counts q → Within q → program_words p ≡ program_words q → structs_list p.steps ≡ structs_list q.steps
  unfolding program_words structs_words
  words_determine q c w e =
      words_injective (structs_list p.steps) (structs_list q.steps)
      (structs_ranged p.steps (program_ranged p counts within)) (structs_ranged q.steps (program_ranged q c w)) e
