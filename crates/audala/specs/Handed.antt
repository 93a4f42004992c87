-- What the crates below answer, field by field, as the library hands it over.
use Rattle.checker.specs.declared.Verdict.{Verdict}
use Rattle.run_images.specs.declared.Report.{Report as Reported}
use Rattle.count_images.specs.declared.Counts.{Counts as Counted}
use Rattle.trace_images.specs.declared.Traced.{Traced as Paged}
use Rattle.read_text.specs.declared.Answer.{Answer as Read}
use Rattle.audala.specs.declared.Answer.{Answer}
use Rattle.audala.specs.declared.Report.{Report}
use Rattle.audala.specs.declared.tallies.Counts.{Counts}
use Rattle.audala.specs.declared.traces.Traced.{Traced}
use Rattle.audala.specs.declared.images.Copied.{Copied}
use Rattle.audala.specs.Images.{copied}

abbrev pub handed_verdict : Verdict → Answer
handed_verdict v = record { number = v.number; structs = v.structs; steps = v.steps; commands = v.commands; depth = v.depth }

abbrev pub handed_report : Reported → Report
handed_report r = record { number = r.number; turns = r.turns; blocks = r.blocks; depth = r.depth; holding = r.holding }

abbrev pub handed_counts : Counted → Counts
handed_counts c = record { number = c.number; truths = c.truths; falsehoods = c.falsehoods; stops = c.stops }

abbrev pub handed_page : Paged → Traced
handed_page r = record { number = r.number; turns = r.turns; length = r.length; count = r.count }

abbrev pub handed_image : Read → Copied
handed_image a = copied a.number a.blocks
