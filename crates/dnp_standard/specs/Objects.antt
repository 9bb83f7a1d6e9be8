-- Definition: the objects by group and variation (IEEE Std 1815-2012, annex A): what each is, and how many bits or octets it has. Where
-- its size isn't fixed it says so itself, or a size stands before it.
use Rattle.std.specs.Prelude.{ℕ, Bool, nat_le, ◌==◌, ◌&&◌, if◌then◌else◌, List, [], ◌∷◌, Option, Some, None, find}
use Rattle.dnp_standard.specs.declared.kind.Kind.{Kind}
use Rattle.dnp_standard.specs.declared.kind.Kind.TheVariants as kind
use Rattle.dnp_standard.specs.declared.object.Object.{Object}
use Rattle.dnp_standard.specs.declared.object.Size.{Size}
use Rattle.dnp_standard.specs.declared.object.Size.TheVariants.{Bit, BitPair, Octets, Varying}

abbrev pub object : ℕ → ℕ → Kind → Size → Object
object group variation k size = record { group = group; variation = variation; kind = k; size = size }

-- all of them but octet strings and the virtual terminal's
unfoldable pub objects : List Object
objects =
    object 0 196 kind.ConfigurationId Varying
    ∷ object 0 197 kind.ConfigurationVersion Varying
    ∷ object 0 198 kind.ConfigurationBuildDate Varying
    ∷ object 0 199 kind.ConfigurationLastChangeDate Varying
    ∷ object 0 200 kind.ConfigurationSignature Varying
    ∷ object 0 201 kind.ConfigurationSignatureAlgorithm Varying
    ∷ object 0 202 kind.MasterResourceId Varying
    ∷ object 0 203 kind.AltitudeOfTheDevice Varying
    ∷ object 0 204 kind.LongitudeOfTheDevice Varying
    ∷ object 0 205 kind.LatitudeOfTheDevice Varying
    ∷ object 0 206 kind.SecondaryOperatorName Varying
    ∷ object 0 207 kind.PrimaryOperatorName Varying
    ∷ object 0 208 kind.SystemName Varying
    ∷ object 0 209 kind.SecureAuthenticationVersion Varying
    ∷ object 0 210 kind.NumberOfSecurityStatisticsPerAssociation Varying
    ∷ object 0 211 kind.UserSpecificAttributes Varying
    ∷ object 0 212 kind.NumberOfMasterDefinedDataSetPrototypes Varying
    ∷ object 0 213 kind.NumberOfOutstationDefinedDataSetPrototypes Varying
    ∷ object 0 214 kind.NumberOfMasterDefinedDataSets Varying
    ∷ object 0 215 kind.NumberOfOutstationDefinedDataSets Varying
    ∷ object 0 216 kind.MaximumNumberOfBinaryOutputsPerRequest Varying
    ∷ object 0 217 kind.LocalTimingAccuracy Varying
    ∷ object 0 218 kind.DurationOfTimeAccuracy Varying
    ∷ object 0 219 kind.SupportForAnalogOutputEvents Varying
    ∷ object 0 220 kind.MaximumAnalogOutputIndex Varying
    ∷ object 0 221 kind.NumberOfAnalogOutputs Varying
    ∷ object 0 222 kind.SupportForBinaryOutputEvents Varying
    ∷ object 0 223 kind.MaximumBinaryOutputIndex Varying
    ∷ object 0 224 kind.NumberOfBinaryOutputs Varying
    ∷ object 0 225 kind.SupportForFrozenCounterEvents Varying
    ∷ object 0 226 kind.SupportForFrozenCounters Varying
    ∷ object 0 227 kind.SupportForCounterEvents Varying
    ∷ object 0 228 kind.MaximumCounterIndex Varying
    ∷ object 0 229 kind.NumberOfCounters Varying
    ∷ object 0 230 kind.SupportForFrozenAnalogInputs Varying
    ∷ object 0 231 kind.SupportForAnalogInputEvents Varying
    ∷ object 0 232 kind.MaximumAnalogInputIndex Varying
    ∷ object 0 233 kind.NumberOfAnalogInputs Varying
    ∷ object 0 234 kind.SupportForDoubleBitBinaryInputEvents Varying
    ∷ object 0 235 kind.MaximumDoubleBitBinaryInputIndex Varying
    ∷ object 0 236 kind.NumberOfDoubleBitBinaryInputs Varying
    ∷ object 0 237 kind.SupportForBinaryInputEvents Varying
    ∷ object 0 238 kind.MaximumBinaryInputIndex Varying
    ∷ object 0 239 kind.NumberOfBinaryInputs Varying
    ∷ object 0 240 kind.MaximumTransmitFragmentSize Varying
    ∷ object 0 241 kind.MaximumReceiveFragmentSize Varying
    ∷ object 0 242 kind.SoftwareVersion Varying
    ∷ object 0 243 kind.HardwareVersion Varying
    ∷ object 0 244 kind.OwnerName Varying
    ∷ object 0 245 kind.LocationName Varying
    ∷ object 0 246 kind.IdCodeOrNumber Varying
    ∷ object 0 247 kind.DeviceName Varying
    ∷ object 0 248 kind.SerialNumber Varying
    ∷ object 0 249 kind.SubsetAndConformance Varying
    ∷ object 0 250 kind.ProductNameAndModel Varying
    ∷ object 0 252 kind.ManufacturersName Varying
    ∷ object 0 254 kind.AllAttributes Varying
    ∷ object 0 255 kind.ListOfAttributeVariations Varying
    ∷ object 1 0 kind.AnyVariation Varying
    ∷ object 1 1 kind.PackedFormat Bit
    ∷ object 1 2 kind.WithFlags (Octets 1)
    ∷ object 2 0 kind.AnyVariation Varying
    ∷ object 2 1 kind.WithoutTime (Octets 1)
    ∷ object 2 2 kind.WithAbsoluteTime (Octets 7)
    ∷ object 2 3 kind.WithRelativeTime (Octets 3)
    ∷ object 3 0 kind.AnyVariation Varying
    ∷ object 3 1 kind.PackedFormat BitPair
    ∷ object 3 2 kind.WithFlags (Octets 1)
    ∷ object 4 0 kind.AnyVariation Varying
    ∷ object 4 1 kind.WithoutTime (Octets 1)
    ∷ object 4 2 kind.WithAbsoluteTime (Octets 7)
    ∷ object 4 3 kind.WithRelativeTime (Octets 3)
    ∷ object 10 0 kind.AnyVariation Varying
    ∷ object 10 1 kind.PackedFormat Bit
    ∷ object 10 2 kind.OutputStatusWithFlags (Octets 1)
    ∷ object 11 0 kind.AnyVariation Varying
    ∷ object 11 1 kind.StatusWithoutTime (Octets 1)
    ∷ object 11 2 kind.StatusWithTime (Octets 7)
    ∷ object 12 0 kind.AnyVariation Varying
    ∷ object 12 1 kind.ControlRelayOutputBlock (Octets 11)
    ∷ object 12 2 kind.PatternControlBlock (Octets 11)
    ∷ object 12 3 kind.PatternMask Bit
    ∷ object 13 0 kind.AnyVariation Varying
    ∷ object 13 1 kind.CommandStatusWithoutTime (Octets 1)
    ∷ object 13 2 kind.CommandStatusWithTime (Octets 7)
    ∷ object 20 0 kind.AnyVariation Varying
    ∷ object 20 1 kind.WideWithFlag (Octets 5)
    ∷ object 20 2 kind.NarrowWithFlag (Octets 3)
    ∷ object 20 3 kind.WideWithFlagDelta (Octets 5)
    ∷ object 20 4 kind.NarrowWithFlagDelta (Octets 3)
    ∷ object 20 5 kind.WideWithoutFlag (Octets 4)
    ∷ object 20 6 kind.NarrowWithoutFlag (Octets 2)
    ∷ object 20 7 kind.WideWithoutFlagDelta (Octets 4)
    ∷ object 20 8 kind.NarrowWithoutFlagDelta (Octets 2)
    ∷ object 21 0 kind.AnyVariation Varying
    ∷ object 21 1 kind.WideWithFlag (Octets 5)
    ∷ object 21 2 kind.NarrowWithFlag (Octets 3)
    ∷ object 21 3 kind.WideWithFlagDelta (Octets 5)
    ∷ object 21 4 kind.NarrowWithFlagDelta (Octets 3)
    ∷ object 21 5 kind.WideWithFlagAndTime (Octets 11)
    ∷ object 21 6 kind.NarrowWithFlagAndTime (Octets 9)
    ∷ object 21 7 kind.WideWithFlagAndTimeDelta (Octets 11)
    ∷ object 21 8 kind.NarrowWithFlagAndTimeDelta (Octets 9)
    ∷ object 21 9 kind.WideWithoutFlag (Octets 4)
    ∷ object 21 10 kind.NarrowWithoutFlag (Octets 2)
    ∷ object 21 11 kind.WideWithoutFlagDelta (Octets 4)
    ∷ object 21 12 kind.NarrowWithoutFlagDelta (Octets 2)
    ∷ object 22 0 kind.AnyVariation Varying
    ∷ object 22 1 kind.WideWithFlag (Octets 5)
    ∷ object 22 2 kind.NarrowWithFlag (Octets 3)
    ∷ object 22 3 kind.WideWithFlagDelta (Octets 5)
    ∷ object 22 4 kind.NarrowWithFlagDelta (Octets 3)
    ∷ object 22 5 kind.WideWithFlagAndTime (Octets 11)
    ∷ object 22 6 kind.NarrowWithFlagAndTime (Octets 9)
    ∷ object 22 7 kind.WideWithFlagAndTimeDelta (Octets 11)
    ∷ object 22 8 kind.NarrowWithFlagAndTimeDelta (Octets 9)
    ∷ object 23 0 kind.AnyVariation Varying
    ∷ object 23 1 kind.WideWithFlag (Octets 5)
    ∷ object 23 2 kind.NarrowWithFlag (Octets 3)
    ∷ object 23 3 kind.WideWithFlagDelta (Octets 5)
    ∷ object 23 4 kind.NarrowWithFlagDelta (Octets 3)
    ∷ object 23 5 kind.WideWithFlagAndTime (Octets 11)
    ∷ object 23 6 kind.NarrowWithFlagAndTime (Octets 9)
    ∷ object 23 7 kind.WideWithFlagAndTimeDelta (Octets 11)
    ∷ object 23 8 kind.NarrowWithFlagAndTimeDelta (Octets 9)
    ∷ object 30 0 kind.AnyVariation Varying
    ∷ object 30 1 kind.WideWithFlag (Octets 5)
    ∷ object 30 2 kind.NarrowWithFlag (Octets 3)
    ∷ object 30 3 kind.WideWithoutFlag (Octets 4)
    ∷ object 30 4 kind.NarrowWithoutFlag (Octets 2)
    ∷ object 30 5 kind.FloatWithFlag (Octets 5)
    ∷ object 30 6 kind.DoubleWithFlag (Octets 9)
    ∷ object 31 0 kind.AnyVariation Varying
    ∷ object 31 1 kind.WideWithFlag (Octets 5)
    ∷ object 31 2 kind.NarrowWithFlag (Octets 3)
    ∷ object 31 3 kind.WideWithTimeOfFreeze (Octets 11)
    ∷ object 31 4 kind.NarrowWithTimeOfFreeze (Octets 9)
    ∷ object 31 5 kind.WideWithoutFlag (Octets 4)
    ∷ object 31 6 kind.NarrowWithoutFlag (Octets 2)
    ∷ object 31 7 kind.FloatWithFlag (Octets 5)
    ∷ object 31 8 kind.DoubleWithFlag (Octets 9)
    ∷ object 32 0 kind.AnyVariation Varying
    ∷ object 32 1 kind.WideWithoutTime (Octets 5)
    ∷ object 32 2 kind.NarrowWithoutTime (Octets 3)
    ∷ object 32 3 kind.WideWithTime (Octets 11)
    ∷ object 32 4 kind.NarrowWithTime (Octets 9)
    ∷ object 32 5 kind.FloatWithoutTime (Octets 5)
    ∷ object 32 6 kind.DoubleWithoutTime (Octets 9)
    ∷ object 32 7 kind.FloatWithTime (Octets 11)
    ∷ object 32 8 kind.DoubleWithTime (Octets 15)
    ∷ object 33 0 kind.AnyVariation Varying
    ∷ object 33 1 kind.WideWithoutTime (Octets 5)
    ∷ object 33 2 kind.NarrowWithoutTime (Octets 3)
    ∷ object 33 3 kind.WideWithTime (Octets 11)
    ∷ object 33 4 kind.NarrowWithTime (Octets 9)
    ∷ object 33 5 kind.FloatWithoutTime (Octets 5)
    ∷ object 33 6 kind.DoubleWithoutTime (Octets 9)
    ∷ object 33 7 kind.FloatWithTime (Octets 11)
    ∷ object 33 8 kind.DoubleWithTime (Octets 15)
    ∷ object 34 0 kind.AnyVariation Varying
    ∷ object 34 1 kind.Narrow (Octets 2)
    ∷ object 34 2 kind.Wide (Octets 4)
    ∷ object 34 3 kind.Float (Octets 4)
    ∷ object 40 0 kind.AnyVariation Varying
    ∷ object 40 1 kind.WideWithFlag (Octets 5)
    ∷ object 40 2 kind.NarrowWithFlag (Octets 3)
    ∷ object 40 3 kind.FloatWithFlag (Octets 5)
    ∷ object 40 4 kind.DoubleWithFlag (Octets 9)
    ∷ object 41 0 kind.AnyVariation Varying
    ∷ object 41 1 kind.Wide (Octets 5)
    ∷ object 41 2 kind.Narrow (Octets 3)
    ∷ object 41 3 kind.Float (Octets 5)
    ∷ object 41 4 kind.Double (Octets 9)
    ∷ object 42 0 kind.AnyVariation Varying
    ∷ object 42 1 kind.WideWithoutTime (Octets 5)
    ∷ object 42 2 kind.NarrowWithoutTime (Octets 3)
    ∷ object 42 3 kind.WideWithTime (Octets 11)
    ∷ object 42 4 kind.NarrowWithTime (Octets 9)
    ∷ object 42 5 kind.FloatWithoutTime (Octets 5)
    ∷ object 42 6 kind.DoubleWithoutTime (Octets 9)
    ∷ object 42 7 kind.FloatWithTime (Octets 11)
    ∷ object 42 8 kind.DoubleWithTime (Octets 15)
    ∷ object 43 0 kind.AnyVariation Varying
    ∷ object 43 1 kind.WideWithoutTime (Octets 5)
    ∷ object 43 2 kind.NarrowWithoutTime (Octets 3)
    ∷ object 43 3 kind.WideWithTime (Octets 11)
    ∷ object 43 4 kind.NarrowWithTime (Octets 9)
    ∷ object 43 5 kind.FloatWithoutTime (Octets 5)
    ∷ object 43 6 kind.DoubleWithoutTime (Octets 9)
    ∷ object 43 7 kind.FloatWithTime (Octets 11)
    ∷ object 43 8 kind.DoubleWithTime (Octets 15)
    ∷ object 50 0 kind.AnyVariation Varying
    ∷ object 50 1 kind.AbsoluteTime (Octets 6)
    ∷ object 50 2 kind.AbsoluteTimeAndInterval (Octets 10)
    ∷ object 50 3 kind.AbsoluteTimeAtLastRecordedTime (Octets 6)
    ∷ object 50 4 kind.IndexedAbsoluteTimeAndLongInterval (Octets 11)
    ∷ object 51 0 kind.AnyVariation Varying
    ∷ object 51 1 kind.AbsoluteTimeSynchronized (Octets 6)
    ∷ object 51 2 kind.AbsoluteTimeUnsynchronized (Octets 6)
    ∷ object 52 0 kind.AnyVariation Varying
    ∷ object 52 1 kind.Coarse (Octets 2)
    ∷ object 52 2 kind.Fine (Octets 2)
    ∷ object 60 0 kind.AnyVariation Varying
    ∷ object 60 1 kind.Class0Data (Octets 0)
    ∷ object 60 2 kind.Class1Data (Octets 0)
    ∷ object 60 3 kind.Class2Data (Octets 0)
    ∷ object 60 4 kind.Class3Data (Octets 0)
    ∷ object 70 0 kind.AnyVariation Varying
    ∷ object 70 1 kind.FileIdentifier Varying
    ∷ object 70 2 kind.Authentication Varying
    ∷ object 70 3 kind.FileCommand Varying
    ∷ object 70 4 kind.FileCommandStatus Varying
    ∷ object 70 5 kind.FileTransport Varying
    ∷ object 70 6 kind.FileTransportStatus Varying
    ∷ object 70 7 kind.FileDescriptor Varying
    ∷ object 70 8 kind.FileSpecificationString Varying
    ∷ object 80 0 kind.AnyVariation Varying
    ∷ object 80 1 kind.PackedFormat Bit
    ∷ object 81 1 kind.BufferFillStatus (Octets 3)
    ∷ object 82 1 kind.FunctionsAndIndexes Varying
    ∷ object 83 1 kind.PrivateRegistrationObject Varying
    ∷ object 83 2 kind.PrivateRegistrationObjectDescriptor Varying
    ∷ object 85 0 kind.AnyVariation Varying
    ∷ object 85 1 kind.WithUuid Varying
    ∷ object 86 0 kind.AnyVariation Varying
    ∷ object 86 1 kind.DataSetContents Varying
    ∷ object 86 2 kind.Characteristics (Octets 1)
    ∷ object 86 3 kind.PointIndexAttributes Varying
    ∷ object 87 0 kind.AnyVariation Varying
    ∷ object 87 1 kind.PresentValue Varying
    ∷ object 88 0 kind.AnyVariation Varying
    ∷ object 88 1 kind.Snapshot Varying
    ∷ object 90 0 kind.AnyVariation Varying
    ∷ object 90 1 kind.ApplicationIdentifier Varying
    ∷ object 91 0 kind.AnyVariation Varying
    ∷ object 91 1 kind.ActivateConfiguration Varying
    ∷ object 101 0 kind.AnyVariation Varying
    ∷ object 101 1 kind.Small (Octets 2)
    ∷ object 101 2 kind.Medium (Octets 4)
    ∷ object 101 3 kind.Large (Octets 8)
    ∷ object 102 0 kind.AnyVariation Varying
    ∷ object 102 1 kind.EightBit (Octets 1)
    ∷ object 120 1 kind.Challenge Varying
    ∷ object 120 2 kind.Reply Varying
    ∷ object 120 3 kind.AggressiveModeRequest (Octets 6)
    ∷ object 120 4 kind.SessionKeyStatusRequest (Octets 2)
    ∷ object 120 5 kind.SessionKeyStatus Varying
    ∷ object 120 6 kind.SessionKeyChange Varying
    ∷ object 120 7 kind.AuthenticationError Varying
    ∷ object 120 8 kind.UserCertificate Varying
    ∷ object 120 9 kind.MessageAuthenticationCode Varying
    ∷ object 120 10 kind.UserStatusChange Varying
    ∷ object 120 11 kind.UpdateKeyChangeRequest Varying
    ∷ object 120 12 kind.UpdateKeyChangeReply Varying
    ∷ object 120 13 kind.UpdateKeyChange Varying
    ∷ object 120 14 kind.UpdateKeyChangeSignature Varying
    ∷ object 120 15 kind.UpdateKeyChangeConfirmation Varying
    ∷ object 121 0 kind.AnyVariation Varying
    ∷ object 121 1 kind.WideWithFlag (Octets 7)
    ∷ object 122 0 kind.AnyVariation Varying
    ∷ object 122 1 kind.WideWithFlag (Octets 7)
    ∷ object 122 2 kind.WideWithFlagAndTime (Octets 13)
    ∷ []

unfoldable pub listed : ℕ → ℕ → Option Object
listed group variation = find (λ o. (o.group == group) && (o.variation == variation)) objects

-- an octet string or an object of the virtual terminal has as many octets as its variation says; variation 0 is of any
abbrev pub is_string : ℕ → Bool
is_string group = nat_le 110 group && nat_le group 113

abbrev pub string_of : ℕ → ℕ → Object
string_of group variation =
    if variation == 0 then object group variation kind.AnyVariation Varying
    else object group variation kind.SizeOfVariation (Octets variation)

-- the object of a group and variation, if there is one
abbrev pub object_of : ℕ → ℕ → Option Object
object_of group variation = if is_string group then Some (string_of group variation) else listed group variation
