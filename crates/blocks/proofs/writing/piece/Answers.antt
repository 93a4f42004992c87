-- `writing::piece` meets its contract: the last piece goes up to the stream's end.
use Rattle.blocks.proofs.WriteWays.{piece_last, piece_full}
use Rattle.blocks.proofs.writing.piece.Goals as goal

pub returns-then-stream-start-lt-PAYLOAD_SIZE : goal.returns-then-stream-start-lt-PAYLOAD_SIZE
returns-then-stream-start-lt-PAYLOAD_SIZE c = piece_last _ _ c.if-stream-start-lt-PAYLOAD_SIZE.true

pub returns : goal.returns
returns c = piece_full c.args.stream.now _
