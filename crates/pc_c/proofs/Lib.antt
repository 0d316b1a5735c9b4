mod HandleLaws
mod HandleValues
mod UnboxedValues
