mod ServerLaws
mod ServiceLaws
mod ServingLaws
mod FileLaws
mod CountLaws
mod AnsweredLaws
mod LossLaws
