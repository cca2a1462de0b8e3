-- What a handle holds says the same to every thread: plain data, and the right to free its block.
use mir.Raw.{raw}
use base.Shift.{Keyless}
use denote.Memory.{lone}
use denote.RawPtr.{Ptr}
use denote.Struct.Struct.{exits_of}
use denote.Struct.Owning.{shape, fields, to}
use denote.Param.Send.{IsSend, AllSend, owning_send, struct_send, sendable}
use Rattle.std.specs.Prelude.{Option, None, Some}
use Rattle.std.specs.declared.alloc.Global.{Global}
use Rattle.std.proofs.Crossing as heap
use Rattle.std.proofs.alloc.Global.TheSendSync as handle
use Rattle.std_alloc.proofs.SendSync.{quiet, lies}
use Rattle.ix_file.specs.Opened.{Opened}
use Rattle.ix_file.specs.contracts.volume.Volume as volume
use Rattle.ix_file.proofs.volume.Volume.TheSendSync.{the_send as volume_send}
use Rattle.ix_c.specs.contracts.held.Held.{the_row, the_type}
use Rattle.ix_c.proofs.HeldLemmas.{owned}

owned_keyless : (a : Global) (p : Ptr) (value : Option Opened) → Keyless (owned a p value)
owned_keyless a p None = tt
owned_keyless a p (Some opened) = (lies volume.the_row volume_send p opened, heap.frees.frees a (raw (lone volume.the_row.mir)) p)

pub send : IsSend the_row
send =
    let all : AllSend (fields the_type) = (search sendable, (handle.the_field_send, tt)) in
    owning_send the_type all (λ d. owned_keyless d.alloc d.at d.value) (λ k. quiet (to the_type) (exits_of k (fields the_type)) ((struct_send (shape the_type) all).leaving k))
