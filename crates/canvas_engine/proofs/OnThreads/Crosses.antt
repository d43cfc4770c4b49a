-- What the threads of a run share and hand back may cross between them.
use Rattle.std.proofs.Crossing.{crosses}
use Rattle.std.specs.Prelude.{List, []}
use base.Fml.{Lft}
use denote.Builtin.{One}
use denote.RattleType.{RattleType}
use denote.Param.Send.{IsSend, IsSync, AllSync, sendable, recorded_sync, struct_sync}
use denote.Struct.Declared.{shape}
use denote.Struct.Field.{shr_ref_field}
use denote.Struct.Tuple.{type_at, field_at, TupleAt}
use mir.Syntax.{named}
use Rattle.atomic_table.proofs.send_lease.SendLease.TheSendSync.{the_sync as lease_sync}
use Rattle.atomic_table.proofs.shared.Seat.TheSendSync.{the_send as table_seat_send}
use Rattle.atomic_table.proofs.shared.Shared.TheSendSync.{the_sync as table_sync}
use Rattle.canvas_task.proofs.list_of.ListOf.TheSendSync.{the_send as list_send, the_sync as list_sync}
use Rattle.canvas_task.proofs.number.GroupNo.TheSendSync.{the_send as group_send, the_sync as group_sync}
use Rattle.canvas_task.proofs.number.TaskNo.TheSendSync.{the_send as task_send, the_sync as task_sync}
use Rattle.canvas_envelope.proofs.Crosses.{letter}
use Rattle.canvas_envelope.specs.contracts.letter.Letter as Letter
use Rattle.canvas_rewrite.specs.contracts.group_list.GroupEntry as GroupEntry
use Rattle.canvas_rewrite.specs.contracts.group_list.Groups as Groups
use Rattle.canvas_backend.specs.contracts.backend.Backend as Backend
use Rattle.canvas_backend.specs.contracts.backend.BackendSeat as BackendSeat
use Rattle.canvas_backend.specs.contracts.roster.Roster as Roster
use Rattle.canvas_broker.proofs.Crosses.{pass as pass_of, broker as broker_of}
use Rattle.canvas_broker.specs.contracts.broker.Broker as Broker
use Rattle.canvas_broker.specs.contracts.pass.BrokerPass as BrokerPass
use Rattle.canvas_worker.specs.contracts.in_flight.InFlight as InFlight
use Rattle.canvas_worker.specs.contracts.record.Record as Record
use Rattle.canvas_worker.specs.contracts.stop.Stop as Stop
use Rattle.canvas_engine.specs.contracts.threads.slot.SlotState as SlotState
use Rattle.canvas_engine.specs.contracts.threads.slot.WorkerSlot as WorkerSlot

ruleset plain = (list_send, list_sync, group_send, group_sync, task_send, task_sync, sendable, crosses)

pass : IsSend (BrokerPass.the_row Letter.the_row)
pass = pass_of Letter.the_row letter

seat : IsSend BackendSeat.the_row
seat = search (table_seat_send, plain) depth 20

left : IsSend (Record.the_field).row
left = search (pass, seat, plain) depth 20

state : IsSend (SlotState.the_field).row
state = search (pass, seat, left, plain) depth 20

pub slot : IsSend WorkerSlot.the_row
slot = search (state, plain) depth 20

pub broker : IsSync (Broker.the_row Letter.the_row)
broker = broker_of Letter.the_row letter

-- what shares groups needs that each may be sent and looked at
entry_send : IsSend GroupEntry.the_row
entry_send = search plain depth 20

entry_sync : IsSync GroupEntry.the_row
entry_sync = search plain depth 20

groups : IsSync Groups.the_row
groups = search (entry_send, entry_sync, plain) depth 20

roster : IsSync Roster.the_row
roster = search (groups, plain) depth 20

pub backend : IsSync Backend.the_row
backend = search (roster, table_sync, lease_sync, plain) depth 20

pub stop : IsSync Stop.the_row
stop = search plain depth 20

pub flight : IsSync InFlight.the_row
flight = search plain depth 20

-- what a closure captures by a shared reference
abbrev pub lent : Lft → (R : RattleType) → One R.mir → RattleType
lent κ R one = (shr_ref_field record { mir = named 0; lft = κ } R one).row

-- a closure's type is a tuple of what it captures, under a name of its own
pub captured : (Rs : List RattleType) → AllSync (shape (type_at [] Rs)).fields → IsSync (TupleAt [] Rs)
captured Rs all = recorded_sync (field_at [] Rs).row _ _ (type_at [] Rs).to_one (struct_sync (shape (type_at [] Rs)) all)
