-- Where a run goes no further: what is said, and the stop that each fault of a stage becomes.
use Rattle.xs_chars.specs.declared.reading.DecodeFault.{DecodeFault}
use Rattle.xs_chars.specs.declared.reading.DecodeFault.TheVariants as D
use Rattle.xs_form.specs.declared.document.XmlFault.{XmlFault}
use Rattle.xs_form.specs.declared.document.XmlFault.TheVariants as X
use Rattle.xs_sheet.specs.declared.reader.SheetFault.{SheetFault}
use Rattle.xs_sheet.specs.declared.reader.SheetFault.TheVariants as H
use Rattle.xs_wf.specs.declared.well.WfFault.{WfFault}
use Rattle.xs_wf.specs.declared.well.WfFault.TheVariants as W
use Rattle.xs_turn.specs.declared.fault.TurnFault.{TurnFault}
use Rattle.xs_turn.specs.declared.fault.TurnFault.TheVariants as T
use Rattle.xs_outline.specs.declared.fault.OutlineFault.{OutlineFault}
use Rattle.xs_outline.specs.declared.fault.OutlineFault.TheVariants as L
use Rattle.xs_script.specs.declared.fault.ScriptFault.{ScriptFault}
use Rattle.xs_script.specs.declared.fault.ScriptFault.TheVariants as S
use Rattle.xs_searches.specs.declared.fault.CheckFault.{CheckFault}
use Rattle.xs_searches.specs.declared.fault.CheckFault.TheVariants as K
use Rattle.xs_cert.specs.declared.fault.CertFault.{CertFault}
use Rattle.xs_cert.specs.declared.fault.CertFault.TheVariants as C
use Rattle.xs_talk.specs.declared.outcome.Outcome.{Outcome}
use Rattle.xs_talk.specs.declared.outcome.Outcome.TheVariants as O
use Rattle.xs_top.specs.declared.stop.Stop.{Stop}
use Rattle.xs_top.specs.declared.stop.Stop.TheVariants.{Refused, Memory}

-- P holds of the outcome with which it ends
abbrev pub StopsBy : (Outcome → Type 0) → Stop → Type 0
StopsBy P (Refused outcome) = P outcome
StopsBy P Memory = Unit {0}

abbrev pub stop_of_sheet : SheetFault → Stop
stop_of_sheet (H.SheetBad at) = Refused (O.SheetBad at)
stop_of_sheet H.Memory = Memory

abbrev pub stop_of_rule : WfFault → Stop
stop_of_rule (W.Ill ill) = Refused (O.SheetIll ill)
stop_of_rule W.Memory = Memory

abbrev pub stop_of_text : DecodeFault → Stop
stop_of_text (D.NotUtf8 at) = Refused (O.NotUtf8 at)
stop_of_text D.Memory = Memory

abbrev pub stop_of_xml : XmlFault → Stop
stop_of_xml (X.NotXml at) = Refused (O.NotXml at)
stop_of_xml X.Memory = Memory

abbrev pub stop_of_turn : TurnFault → Stop
stop_of_turn (T.Foreign viable) = Refused (O.Foreign viable)
stop_of_turn T.Memory = Memory

abbrev pub stop_of_outline : OutlineFault → Stop
stop_of_outline (L.OutlineBad line) = Refused (O.OutlineBad line)
stop_of_outline L.Memory = Memory

abbrev pub stop_of_script : ScriptFault → Stop
stop_of_script (S.ScriptBad line) = Refused (O.ScriptBad line)
stop_of_script S.Memory = Memory

abbrev pub stop_of_check : CheckFault → Stop
stop_of_check (K.Heavy weight) = Refused (O.Heavy weight)
stop_of_check K.Memory = Memory

abbrev pub stop_of_certificate : CertFault → Stop
stop_of_certificate (C.Heavy weight) = Refused (O.Heavy weight)
stop_of_certificate (C.CertBad line) = Refused (O.CertBad line)
stop_of_certificate C.Memory = Memory
