-- Letters may cross from one thread to another. The frozen tasks in them hold each other, so the search takes what was found of these types together.
use Rattle.std.proofs.Crossing.{crosses}
use denote.Param.Send.{IsSend, sendable}
use Rattle.canvas_rewrite.proofs.frozen.Carried.TheLaws.TheKnot.{both_send-FrozenTask, both_send-FrozenLine, both_send-FrozenEnd, both_send-Place}
use Rattle.canvas_rewrite.specs.contracts.frozen.FrozenEnd as FrozenEnd
use Rattle.canvas_rewrite.specs.contracts.frozen.FrozenLine as FrozenLine
use Rattle.canvas_rewrite.specs.contracts.frozen.FrozenTask as FrozenTask
use Rattle.canvas_rewrite.specs.contracts.frozen.Place as Place
use Rattle.canvas_task.proofs.arg.Arg.TheSendSync.{the_send as arg_send, the_sync as arg_sync}
use Rattle.canvas_task.proofs.list_of.ListOf.TheSendSync.{the_send as list_send, the_sync as list_sync}
use Rattle.canvas_task.proofs.map_of.MapOf.TheSendSync.{the_send as map_send, the_sync as map_sync}
use Rattle.canvas_task.proofs.number.GroupNo.TheSendSync.{the_send as group_send, the_sync as group_sync}
use Rattle.canvas_task.proofs.number.TaskNo.TheSendSync.{the_send as task_send, the_sync as task_sync}
use Rattle.canvas_task.proofs.text_of.TextOf.TheSendSync.{the_send as text_send, the_sync as text_sync}
use Rattle.canvas_envelope.specs.contracts.followed.Followed as Followed
use Rattle.canvas_envelope.specs.contracts.kept.Compact as Compact
use Rattle.canvas_envelope.specs.contracts.letter.Letter as Letter
use Rattle.canvas_envelope.specs.contracts.message.Message as Message
use Rattle.canvas_envelope.proofs.nested_text.CarriedText.TheSendSync.{the_send as carried_send, the_sync as carried_sync}
use Rattle.canvas_envelope.proofs.nested_text.Ring.TheSendSync.{the_send as ring_send, the_sync as ring_sync}
use Rattle.canvas_envelope.proofs.pieces.LinePiece.TheSendSync.{the_send as line_piece_send}
use Rattle.canvas_envelope.proofs.pieces.Piece.TheSendSync.{the_send as piece_send}
use Rattle.canvas_envelope.proofs.pieces.Pieces.TheSendSync.{the_send as pieces_send}
use Rattle.canvas_envelope.proofs.pieces.LetterTexts.TheSendSync.{the_send as sheets_send}
use Rattle.canvas_envelope.proofs.texts.ElementsText.TheSendSync.{the_send as elements_send, the_sync as elements_sync}
use Rattle.canvas_envelope.proofs.texts.Head.TheSendSync.{the_send as head_send, the_sync as head_sync}
use Rattle.canvas_envelope.proofs.texts.LineText.TheSendSync.{the_send as line_text_send}
use Rattle.canvas_envelope.proofs.texts.Texts.TheSendSync.{the_send as texts_send}
use Rattle.canvas_envelope.proofs.unplaced.Unplaced.TheSendSync.{the_send as unplaced_send}

ruleset plain = (
  arg_send,
  arg_sync,
  list_send,
  list_sync,
  map_send,
  map_sync,
  group_send,
  group_sync,
  task_send,
  task_sync,
  text_send,
  text_sync,
  sendable,
  crosses,
)

task : IsSend FrozenTask.the_row
task = search (both_send-FrozenTask, plain) depth 20

line : IsSend FrozenLine.the_row
line = search (both_send-FrozenLine, plain) depth 20

line_end : IsSend FrozenEnd.the_row
line_end = search (both_send-FrozenEnd, plain) depth 20

place : IsSend Place.the_row
place = search (both_send-Place, plain) depth 20

ruleset written = (
  carried_send,
  carried_sync,
  ring_send,
  ring_sync,
  head_send,
  head_sync,
  elements_send,
  elements_sync,
  line_text_send,
  texts_send,
  unplaced_send,
  line_piece_send,
  piece_send,
  pieces_send,
  sheets_send,
)

message : IsSend Message.the_row
message = search (task, line, place, written, plain) depth 40 fits 100000

waiting : IsSend Compact.the_row
waiting = search (task, line, place, written, plain) depth 40 fits 100000

followed : IsSend Followed.the_row
followed = search (message, task, line_end, written, plain) depth 40 fits 100000

pub letter : IsSend Letter.the_row
letter = search (message, waiting, followed, written, plain) depth 40 fits 100000
