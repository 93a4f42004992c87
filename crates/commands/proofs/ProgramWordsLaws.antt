-- The list of a program step by step and struct by struct; it has a word for each command.
use Rattle.std.specs.Prelude.{◌≡◌, refl, List, [], ◌∷◌, ◌++◌, length}
use Rattle.std.proofs.Common.{ap, length-append}
use Rattle.std.proofs.lemmas.List.{map-append, length-map}
use Rattle.program.specs.Tree.{Step, Program}
use Rattle.commands.specs.Commands.{Flat}
use Rattle.commands.specs.Coding.{command_word, words}
use Rattle.commands.specs.Bounds.{total, step_list, step_size, program_size}
use Rattle.commands.specs.ProgramWords.{steps_list, structs_list, step_words, steps_words, structs_words, program_words}

-- the words of commands in a row, and how many they are
pub words_append : (c d : List Flat) → words (c ++ d) ≡ words c ++ words d
unfolding words
words_append c d = map-append command_word c d

pub words_length : (c : List Flat) → length (words c) ≡ length c
unfolding words
words_length c = length-map c command_word

-- no step, and one before the others; no struct, and one before the others
pub no_steps : steps_words [] ≡ []
unfolding steps_words steps_list words
no_steps = refl

pub more_steps : (t : Step) (ts : List Step) → steps_words (t ∷ ts) ≡ step_words t ++ steps_words ts
unfolding steps_words steps_list step_words
more_steps t ts = words_append (step_list t) (steps_list ts)

pub no_structs : structs_words [] ≡ []
unfolding structs_words structs_list words
no_structs = refl

pub more_structs : (ts : List Step) (tss : List (List Step)) → structs_words (ts ∷ tss) ≡ steps_words ts ++ structs_words tss
unfolding structs_words structs_list steps_words
more_structs ts tss = words_append (steps_list ts) (structs_list tss)

-- as many words as commands
pub step_length : (t : Step) → length (step_words t) ≡ step_size t
unfolding step_words
step_length t = words_length (step_list t)

pub steps_length : (ts : List Step) → length (steps_words ts) ≡ total step_size ts
unfolding total
steps_length [] = ap length no_steps
steps_length (t ∷ ts) = rw (more_steps t ts, length-append, step_length t, steps_length ts)

structs_length : (tss : List (List Step)) → length (structs_words tss) ≡ total (total step_size) tss
unfolding total
structs_length [] = ap length no_structs
structs_length (ts ∷ tss) = rw (more_structs ts tss, length-append, steps_length ts, structs_length tss)

pub program_length : (p : Program) → length (program_words p) ≡ program_size p
unfolding program_words program_size
program_length p = structs_length p.steps
