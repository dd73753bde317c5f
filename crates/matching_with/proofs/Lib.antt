mod ParamLaws
mod CompatibleLaws
mod WithLaws
mod GeneralLaws
mod WayLaws
mod AlongLaws
mod TurnLaws
