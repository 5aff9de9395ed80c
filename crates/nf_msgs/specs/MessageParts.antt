-- What tests are told of a message: its kind, and the numbers that it names. This project's own.
use Rattle.std.specs.Prelude.{ℕ, ◌++◌, List, [], codes, Option, None, Some, option_map}
use Rattle.flow_filter.specs.declared.packet.Packet.{Packet}
use Rattle.nf_msgs.specs.AnswerSteps.{numbered}
use Rattle.nf_msgs.specs.declared.msg.Msg.{Msg}
use Rattle.nf_msgs.specs.declared.msg.Msg.TheVariants.{InPacket, InCommand, InSettle, InEnd, Asked, Diverted, End, Forward, Install}
use Rattle.nf_msgs.specs.declared.msg.Msg.TheVariants.{FenceTo, Answered, Finish, Carry, Fence, Stop, Enable, Get, Stream, GetAll, Delete}
use Rattle.nf_msgs.specs.declared.msg.Msg.TheVariants.{Put, Restore, Standby, PutAll, Sync, Enabled, Chunks, Piece, AllChunk, Deleted}
use Rattle.nf_msgs.specs.declared.msg.Msg.TheVariants.{PutOk, PutNo, Restored, Kept, Event, Seen, Fenced, Shared, Synced, Final, Credit}

-- the name of a message's kind
abbrev pub kind_name : Msg → List ℕ
kind_name (InPacket packet) = codes "in packet"
kind_name (InCommand command) = codes "in command"
kind_name InSettle = codes "in settle"
kind_name InEnd = codes "in end"
kind_name (Asked command) = codes "asked"
kind_name (Diverted parcel) = codes "diverted"
kind_name End = codes "end"
kind_name (Forward to mark parcel) = codes "forward"
kind_name (Install op filter from to) = codes "install"
kind_name (FenceTo op to) = codes "fence to"
kind_name (Answered op) = codes "answered"
kind_name Finish = codes "finish"
kind_name (Carry mark parcel) = codes "carry"
kind_name (Fence op) = codes "fence"
kind_name Stop = codes "stop"
kind_name (Enable op filter action) = codes "enable"
kind_name (Get op filter) = codes "get"
kind_name (Stream op filter) = codes "stream"
kind_name (GetAll op) = codes "get all"
kind_name (Delete op units) = codes "delete"
kind_name (Put op piece first) = codes "put"
kind_name (Restore op chunks) = codes "restore"
kind_name (Standby op chunks) = codes "standby"
kind_name (PutAll op chunk) = codes "put all"
kind_name (Sync home op chunks) = codes "sync"
kind_name (Enabled op) = codes "enabled"
kind_name (Chunks op chunks) = codes "chunks"
kind_name (Piece op piece) = codes "piece"
kind_name (AllChunk op chunk) = codes "all chunk"
kind_name (Deleted op) = codes "deleted"
kind_name (PutOk op) = codes "put ok"
kind_name (PutNo op refused) = codes "put no"
kind_name (Restored op) = codes "restored"
kind_name (Kept op) = codes "kept"
kind_name (Event op parcel) = codes "event"
kind_name (Seen op packet) = codes "seen"
kind_name (Fenced op) = codes "fenced"
kind_name (Shared op chunk) = codes "shared"
kind_name (Synced op) = codes "synced"
kind_name Final = codes "final"
kind_name (Credit parcel) = codes "credit"

-- the operation that a message is of
abbrev pub op_of : Msg → Option ℕ
op_of (InCommand command) = Some command.op
op_of (Asked command) = Some command.op
op_of (Install op filter from to) = Some op
op_of (FenceTo op to) = Some op
op_of (Answered op) = Some op
op_of (Fence op) = Some op
op_of (Enable op filter action) = Some op
op_of (Get op filter) = Some op
op_of (Stream op filter) = Some op
op_of (GetAll op) = Some op
op_of (Delete op units) = Some op
op_of (Put op piece first) = Some op
op_of (Restore op chunks) = Some op
op_of (Standby op chunks) = Some op
op_of (PutAll op chunk) = Some op
op_of (Sync home op chunks) = Some op
op_of (Enabled op) = Some op
op_of (Chunks op chunks) = Some op
op_of (Piece op piece) = Some op
op_of (AllChunk op chunk) = Some op
op_of (Deleted op) = Some op
op_of (PutOk op) = Some op
op_of (PutNo op refused) = Some op
op_of (Restored op) = Some op
op_of (Kept op) = Some op
op_of (Event op parcel) = Some op
op_of (Seen op packet) = Some op
op_of (Fenced op) = Some op
op_of (Shared op chunk) = Some op
op_of (Synced op) = Some op
op_of message = None

-- the packet that a message carries
abbrev pub packet_carried : Msg → Option Packet
packet_carried (InPacket packet) = Some packet
packet_carried (Diverted parcel) = Some parcel.packet
packet_carried (Forward to mark parcel) = Some parcel.packet
packet_carried (Carry mark parcel) = Some parcel.packet
packet_carried (Event op parcel) = Some parcel.packet
packet_carried (Seen op packet) = Some packet
packet_carried (Credit parcel) = Some parcel.packet
packet_carried message = None

-- the instance that the switch is to send to
abbrev pub receiver_of : Msg → Option ℕ
receiver_of (Forward to mark parcel) = Some to
receiver_of (FenceTo op to) = Some to
receiver_of message = None

-- a number after a word, where there is one
abbrev pub with_number : List ℕ → Option ℕ → List ℕ
with_number word None = []
with_number word (Some number) = numbered word number

-- all that is told of a message
abbrev pub telling : Msg → List ℕ
telling message =
    kind_name message ++ with_number (codes " op ") (op_of message)
    ++ with_number (codes " packet ") (option_map (λ p. p.number) (packet_carried message)) ++ with_number (codes " to ") (receiver_of message)
