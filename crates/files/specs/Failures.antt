-- What an error of reading or writing names. What a system call read or wrote is none of what a contract can say.
use Rattle.files.specs.declared.Place.TheVariants.{Input, Output, Argument, File}
use Rattle.files.specs.declared.Failure.{Failure}
use Rattle.files.specs.declared.Failure.TheVariants.{Usage, Io}

-- a call with arguments, or standard input
abbrev pub OfInput : Failure → Type 0
OfInput Usage = Unit {0}
OfInput (Io Input why) = Unit {0}
OfInput (Io Output why) = ⊥
OfInput (Io Argument why) = ⊥
OfInput (Io (File path) why) = ⊥

-- standard output
abbrev pub OfOutput : Failure → Type 0
OfOutput Usage = ⊥
OfOutput (Io Input why) = ⊥
OfOutput (Io Output why) = Unit {0}
OfOutput (Io Argument why) = ⊥
OfOutput (Io (File path) why) = ⊥

-- an argument, or the file that it names
abbrev pub OfFile : Failure → Type 0
OfFile Usage = ⊥
OfFile (Io Input why) = ⊥
OfFile (Io Output why) = ⊥
OfFile (Io Argument why) = Unit {0}
OfFile (Io (File path) why) = Unit {0}
