-- A text whose roles stand in it ends as the program that its derivation means (02 §1).
use Rattle.std.specs.Prelude.{ℕ, ◌≡◌, List}
use Rattle.std.proofs.Common.{ap, ◌∙◌}
use Rattle.meaning.specs.Meant.{meant}
use Rattle.source.specs.TextReader.{of_program}
use Rattle.compose.proofs.Laws.StreamLaws.{stream_meant}
use Rattle.read_text.specs.Ending.{ended, ending}
use Rattle.read_text.specs.EndingLaws.{program_ends}
use Rattle.read_text.specs.Roled.{Roled, stream_of}

pub roled_ends : (x cs out : List ℕ) (r : Roled x cs) → ended (stream_of x cs) out ≡ ending (of_program (meant r.derivation) out)
roled_ends x cs out r = ap (λ o. ended o out) (stream_meant x cs r.derivation r.fits r.stands) ∙ program_ends (meant r.derivation) out
