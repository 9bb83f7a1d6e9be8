-- By which name a station tells what its stores refused.
use Rattle.std.specs.Prelude.{◌≡◌, Result, Err}
use Rattle.std.proofs.Common.{refl}
use Rattle.dnp_concentrator.specs.declared.cause.Cause.TheVariants as cause
use Rattle.dnp_master.specs.declared.fault.MasterFault.{MasterFault}
use Rattle.dnp_master.specs.declared.fault.MasterFault.TheVariants.{Memory, Device}
use Rattle.dnp_objects.specs.declared.store.StoreFault.{StoreFault}
use Rattle.dnp_objects.specs.declared.store.StoreFault.TheVariants as store
use Rattle.dnp_outstation.specs.Station.{fault_of}
use Rattle.dnp_outstation.specs.declared.fault.Fault as outstation
use Rattle.dnp_streams.specs.declared.stream.station.StationFault.{StationFault}
use Rattle.dnp_streams.specs.declared.stream.station.StationFault.TheVariants.{Cause}
use Rattle.dnp_streams.specs.streams.Masters.{fault_told}
use Rattle.dnp_streams.specs.streams.Outstations.{cause_told}

-- ---- masters

device_named : (e : MasterFault) → fault_told e ≡ Cause cause.Device → e ≡ Device
device_named Device is = refl
device_named _ is = absurd (cc)

memory_named : (e : MasterFault) → fault_told e ≡ Cause cause.Memory → e ≡ Memory
memory_named Memory is = refl
memory_named _ is = absurd (cc)

-- what is told as Device was answered as Device
pub was_device : {A B : Type 0} (e : MasterFault) (told : StationFault) → told ≡ fault_told e
    → (let r : Result A StationFault = Err told in r) ≡ Err (Cause cause.Device) → (let r : Result B MasterFault = Err e in r) ≡ Err Device
was_device e told told_is is = let same : e ≡ Device = device_named e (cc) in cc

-- and the other way round
pub tells_device : {A B : Type 0} (e : MasterFault) (told : StationFault) → told ≡ fault_told e
    → (let r : Result B MasterFault = Err e in r) ≡ Err Device → (let r : Result A StationFault = Err told in r) ≡ Err (Cause cause.Device)
tells_device Device told told_is is = cc
tells_device _ told told_is is = absurd (cc)

-- what is told as Memory was answered as Memory
pub was_memory : {A : Type 0} (e : MasterFault) (told : StationFault) → told ≡ fault_told e
    → (let r : Result A StationFault = Err told in r) ≡ Err (Cause cause.Memory) → e ≡ Memory
was_memory e told told_is is = memory_named e (cc)

-- ---- outstations

device_of_lanes : (e : StoreFault) → cause_told (fault_of e) ≡ Cause cause.Device → e ≡ store.Device
device_of_lanes store.Device is = refl
device_of_lanes _ is = absurd (cc)

pub lanes_device : {A B : Type 0} (e : StoreFault) (f : outstation.Fault) (told : StationFault) → f ≡ fault_of e → told ≡ cause_told f
    → (let r : Result A StationFault = Err told in r) ≡ Err (Cause cause.Device) → (let r : Result B StoreFault = Err e in r) ≡ Err store.Device
lanes_device e f told refl told_is is = let same : e ≡ store.Device = device_of_lanes e (cc) in cc

pub lanes_tell_device : {A B : Type 0} (e : StoreFault) (f : outstation.Fault) (told : StationFault) → f ≡ fault_of e → told ≡ cause_told f
    → (let r : Result B StoreFault = Err e in r) ≡ Err store.Device → (let r : Result A StationFault = Err told in r) ≡ Err (Cause cause.Device)
lanes_tell_device store.Device f told refl told_is is = cc
lanes_tell_device _ f told f_is told_is is = absurd (cc)
