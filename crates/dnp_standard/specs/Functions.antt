-- Definition: the functions, by octet and name, and what stands behind the object headers of their fragments (IEEE Std 1815-2012,
-- application layer: function codes).
use Rattle.std.specs.Prelude.{ℕ, Bool, true, false, nat_lt, ◌==◌, List, [], ◌∷◌, codes, Option, find}
use Rattle.dnp_standard.specs.declared.function.Function.{Function}
use Rattle.dnp_standard.specs.declared.function.Function.TheVariants as function
use Rattle.dnp_standard.specs.declared.function.Carried.{Carried}
use Rattle.dnp_standard.specs.declared.function.Carried.TheVariants as carried

abbrev pub octet_of : Function → ℕ
octet_of function.Confirm = 0
octet_of function.Read = 1
octet_of function.Write = 2
octet_of function.Select = 3
octet_of function.Operate = 4
octet_of function.DirectOperate = 5
octet_of function.DirectOperateNr = 6
octet_of function.ImmedFreeze = 7
octet_of function.ImmedFreezeNr = 8
octet_of function.FreezeClear = 9
octet_of function.FreezeClearNr = 10
octet_of function.FreezeAtTime = 11
octet_of function.FreezeAtTimeNr = 12
octet_of function.ColdRestart = 13
octet_of function.WarmRestart = 14
octet_of function.InitializeData = 15
octet_of function.InitializeAppl = 16
octet_of function.StartAppl = 17
octet_of function.StopAppl = 18
octet_of function.SaveConfig = 19
octet_of function.EnableUnsolicited = 20
octet_of function.DisableUnsolicited = 21
octet_of function.AssignClass = 22
octet_of function.DelayMeasure = 23
octet_of function.RecordCurrentTime = 24
octet_of function.OpenFile = 25
octet_of function.CloseFile = 26
octet_of function.DeleteFile = 27
octet_of function.GetFileInfo = 28
octet_of function.AuthenticateFile = 29
octet_of function.AbortFile = 30
octet_of function.ActivateConfig = 31
octet_of function.AuthenticateReq = 32
octet_of function.AuthReqNoAck = 33
octet_of function.Response = 129
octet_of function.UnsolicitedResponse = 130
octet_of function.AuthenticateResp = 131

abbrev pub name_of : Function → List ℕ
name_of function.Confirm = codes "CONFIRM"
name_of function.Read = codes "READ"
name_of function.Write = codes "WRITE"
name_of function.Select = codes "SELECT"
name_of function.Operate = codes "OPERATE"
name_of function.DirectOperate = codes "DIRECT_OPERATE"
name_of function.DirectOperateNr = codes "DIRECT_OPERATE_NR"
name_of function.ImmedFreeze = codes "IMMED_FREEZE"
name_of function.ImmedFreezeNr = codes "IMMED_FREEZE_NR"
name_of function.FreezeClear = codes "FREEZE_CLEAR"
name_of function.FreezeClearNr = codes "FREEZE_CLEAR_NR"
name_of function.FreezeAtTime = codes "FREEZE_AT_TIME"
name_of function.FreezeAtTimeNr = codes "FREEZE_AT_TIME_NR"
name_of function.ColdRestart = codes "COLD_RESTART"
name_of function.WarmRestart = codes "WARM_RESTART"
name_of function.InitializeData = codes "INITIALIZE_DATA"
name_of function.InitializeAppl = codes "INITIALIZE_APPL"
name_of function.StartAppl = codes "START_APPL"
name_of function.StopAppl = codes "STOP_APPL"
name_of function.SaveConfig = codes "SAVE_CONFIG"
name_of function.EnableUnsolicited = codes "ENABLE_UNSOLICITED"
name_of function.DisableUnsolicited = codes "DISABLE_UNSOLICITED"
name_of function.AssignClass = codes "ASSIGN_CLASS"
name_of function.DelayMeasure = codes "DELAY_MEASURE"
name_of function.RecordCurrentTime = codes "RECORD_CURRENT_TIME"
name_of function.OpenFile = codes "OPEN_FILE"
name_of function.CloseFile = codes "CLOSE_FILE"
name_of function.DeleteFile = codes "DELETE_FILE"
name_of function.GetFileInfo = codes "GET_FILE_INFO"
name_of function.AuthenticateFile = codes "AUTHENTICATE_FILE"
name_of function.AbortFile = codes "ABORT_FILE"
name_of function.ActivateConfig = codes "ACTIVATE_CONFIG"
name_of function.AuthenticateReq = codes "AUTHENTICATE_REQ"
name_of function.AuthReqNoAck = codes "AUTH_REQ_NO_ACK"
name_of function.Response = codes "RESPONSE"
name_of function.UnsolicitedResponse = codes "UNSOLICITED_RESPONSE"
name_of function.AuthenticateResp = codes "AUTHENTICATE_RESP"

-- headers name objects, and none follow them; or a time alone follows; or objects do
abbrev pub carried_of : Function → Carried
carried_of function.Confirm = carried.Headers
carried_of function.Read = carried.Headers
carried_of function.Write = carried.Objects
carried_of function.Select = carried.Objects
carried_of function.Operate = carried.Objects
carried_of function.DirectOperate = carried.Objects
carried_of function.DirectOperateNr = carried.Objects
carried_of function.ImmedFreeze = carried.Headers
carried_of function.ImmedFreezeNr = carried.Headers
carried_of function.FreezeClear = carried.Headers
carried_of function.FreezeClearNr = carried.Headers
carried_of function.FreezeAtTime = carried.Times
carried_of function.FreezeAtTimeNr = carried.Times
carried_of function.ColdRestart = carried.Headers
carried_of function.WarmRestart = carried.Headers
carried_of function.InitializeData = carried.Headers
carried_of function.InitializeAppl = carried.Objects
carried_of function.StartAppl = carried.Objects
carried_of function.StopAppl = carried.Objects
carried_of function.SaveConfig = carried.Objects
carried_of function.EnableUnsolicited = carried.Headers
carried_of function.DisableUnsolicited = carried.Headers
carried_of function.AssignClass = carried.Headers
carried_of function.DelayMeasure = carried.Headers
carried_of function.RecordCurrentTime = carried.Headers
carried_of function.OpenFile = carried.Objects
carried_of function.CloseFile = carried.Objects
carried_of function.DeleteFile = carried.Objects
carried_of function.GetFileInfo = carried.Objects
carried_of function.AuthenticateFile = carried.Objects
carried_of function.AbortFile = carried.Objects
carried_of function.ActivateConfig = carried.Objects
carried_of function.AuthenticateReq = carried.Objects
carried_of function.AuthReqNoAck = carried.Objects
carried_of function.Response = carried.Objects
carried_of function.UnsolicitedResponse = carried.Objects
carried_of function.AuthenticateResp = carried.Objects

-- all of them
unfoldable pub functions : List Function
functions =
    function.Confirm
    ∷ function.Read
    ∷ function.Write
    ∷ function.Select
    ∷ function.Operate
    ∷ function.DirectOperate
    ∷ function.DirectOperateNr
    ∷ function.ImmedFreeze
    ∷ function.ImmedFreezeNr
    ∷ function.FreezeClear
    ∷ function.FreezeClearNr
    ∷ function.FreezeAtTime
    ∷ function.FreezeAtTimeNr
    ∷ function.ColdRestart
    ∷ function.WarmRestart
    ∷ function.InitializeData
    ∷ function.InitializeAppl
    ∷ function.StartAppl
    ∷ function.StopAppl
    ∷ function.SaveConfig
    ∷ function.EnableUnsolicited
    ∷ function.DisableUnsolicited
    ∷ function.AssignClass
    ∷ function.DelayMeasure
    ∷ function.RecordCurrentTime
    ∷ function.OpenFile
    ∷ function.CloseFile
    ∷ function.DeleteFile
    ∷ function.GetFileInfo
    ∷ function.AuthenticateFile
    ∷ function.AbortFile
    ∷ function.ActivateConfig
    ∷ function.AuthenticateReq
    ∷ function.AuthReqNoAck
    ∷ function.Response
    ∷ function.UnsolicitedResponse
    ∷ function.AuthenticateResp
    ∷ []

-- the function of an octet, if it is one's
unfoldable pub function_of : ℕ → Option Function
function_of octet = find (λ f. octet_of f == octet) functions

-- the function is a response's, and not a request's
abbrev pub is_response : Function → Bool
is_response f = nat_lt 128 (octet_of f)
