-- A queue of what may cross between threads may be shared by them, and a pass may cross to one.
use Rattle.std.specs.Prelude.{List, []}
use base.Fml.{Lft}
use denote.Builtin.{One}
use denote.RattleType.{RattleType}
use denote.Param.Send.{IsSend, IsSync, AllSend, recorded_send, struct_send}
use denote.Struct.Declared.{shape}
use denote.Struct.Field.{shr_ref_field}
use denote.Struct.Tuple.{type_at, field_at, TupleAt}
use mir.Syntax.{named}
use Rattle.canvas_broker.specs.contracts.broker.Broker as Broker
use Rattle.canvas_broker.proofs.pass.BrokerPass.TheSendSync.{the_send as pass_send}
use Rattle.canvas_broker.proofs.broker.Broker.TheSendSync.{the_sync as broker_sync}
use Rattle.canvas_broker.specs.contracts.pass.BrokerPass as BrokerPass

pub pass : (T : RattleType) → IsSend T → IsSend (BrokerPass.the_row T)
pass T item = pass_send T item

pub broker : (T : RattleType) → IsSend T → IsSync (Broker.the_row T)
broker T item = broker_sync T item

-- what a closure captures by a shared reference
abbrev pub lent : Lft → (R : RattleType) → One R.mir → RattleType
lent κ R one = (shr_ref_field record { mir = named 0; lft = κ } R one).row

-- a closure's type is a tuple of what it captures, under a name of its own
pub captured : (Rs : List RattleType) → AllSend (shape (type_at [] Rs)).fields → IsSend (TupleAt [] Rs)
captured Rs all = recorded_send (field_at [] Rs).row _ _ (type_at [] Rs).to_one (struct_send (shape (type_at [] Rs)) all)
