-- The number, layer and class of each refusal and drop.
use Rattle.std.specs.Prelude.{ℕ, cond, nat_lt, List, codes}
use Rattle.raft_log.specs.declared.fault.LogFault.{LogFault}
use Rattle.raft_log.specs.declared.fault.LogFault.TheVariants as log
use Rattle.leader.specs.declared.fault.LeaderFault.{LeaderFault}
use Rattle.leader.specs.declared.fault.LeaderFault.TheVariants as leader
use Rattle.relay.specs.declared.fault.RelayFault.{RelayFault}
use Rattle.relay.specs.declared.fault.RelayFault.TheVariants as relay
use Rattle.client.specs.declared.fault.ClientFault.{ClientFault}
use Rattle.client.specs.declared.fault.ClientFault.TheVariants as client
use Rattle.state.specs.declared.fault.ServiceFault.{ServiceFault}
use Rattle.state.specs.declared.fault.ServiceFault.TheVariants.{Memory, NoSuch, TableFull, Malformed, Leader, Relay, Client}
use Rattle.state.specs.declared.fault.Layer.{Layer}
use Rattle.state.specs.declared.fault.Layer.TheVariants as at
use Rattle.state.specs.declared.fault.Class.{Class}
use Rattle.state.specs.declared.fault.Class.TheVariants.{Refused, Dropped}

abbrev pub log_number : LogFault → ℕ
log_number log.VotersNotEnough = 3
log_number log.VoterNewer = 4
log_number log.TermsUsedUp = 5
log_number log.NoLeader = 6
log_number log.NothingToCopy = 13
log_number log.CountOutOfRange = 14
log_number log.OtherTerm = 15
log_number log.HoldersNotEnough = 16
log_number log.LogFull = 25
log_number log.NotCommitted = 26

abbrev pub leader_number : LeaderFault → ℕ
leader_number leader.PartsUsedUp = 7
leader_number leader.NoReply = 17
leader_number leader.OtherSession = 21
leader_number leader.NumberNotAbove = 22
leader_number leader.NotReady = 23
leader_number leader.Uncommitted = 24
leader_number leader.TermBegun = 29
leader_number (leader.Log f) = log_number f

abbrev pub relay_number : RelayFault → ℕ
relay_number relay.NothingToInstall = 8
relay_number relay.Closed = 20
relay_number relay.OtherSession = 21
relay_number relay.NumbersUsedUp = 28

abbrev pub client_number : ClientFault → ℕ
client_number client.Busy = 9
client_number client.Idle = 10
client_number client.NumbersUsedUp = 11
client_number client.NotAwaited = 27

abbrev pub number_of : ServiceFault → ℕ
number_of Memory = 1
number_of NoSuch = 2
number_of TableFull = 12
number_of Malformed = 19
number_of (Leader f) = leader_number f
number_of (Relay f) = relay_number f
number_of (Client f) = client_number f

-- the log's faults are found in the log, the others in the leader's part
abbrev pub found_by_leader : LeaderFault → Layer
found_by_leader leader.PartsUsedUp = at.Leader
found_by_leader leader.NoReply = at.Leader
found_by_leader leader.OtherSession = at.Leader
found_by_leader leader.NumberNotAbove = at.Leader
found_by_leader leader.NotReady = at.Leader
found_by_leader leader.Uncommitted = at.Leader
found_by_leader leader.TermBegun = at.Leader
found_by_leader (leader.Log f) = at.Log

-- the layer that found the fault
abbrev pub found_in : ServiceFault → Layer
found_in Memory = at.Service
found_in NoSuch = at.Service
found_in TableFull = at.Service
found_in Malformed = at.Service
found_in (Leader f) = found_by_leader f
found_in (Relay f) = at.Relay
found_in (Client f) = at.Client

-- service 1, log 2, leader 3, relay 4, client 5
abbrev pub layer_number : Layer → ℕ
layer_number at.Service = 1
layer_number at.Log = 2
layer_number at.Leader = 3
layer_number at.Relay = 4
layer_number at.Client = 5

-- what a person reads for the layer
abbrev pub layer_name : Layer → List ℕ
layer_name at.Service = codes "service"
layer_name at.Log = codes "log"
layer_name at.Leader = codes "leader"
layer_name at.Relay = codes "relay"
layer_name at.Client = codes "client"

-- what a person reads for the class
abbrev pub class_name : Class → List ℕ
class_name Refused = codes "refused"
class_name Dropped = codes "dropped"

-- the number of the layer that found the fault
abbrev pub layer_of : ServiceFault → ℕ
layer_of f = layer_number (found_in f)

-- numbers below 20 refuse a step, the others drop a message
abbrev pub class_of : ServiceFault → Class
class_of f = cond (nat_lt (number_of f) 20) Refused Dropped
