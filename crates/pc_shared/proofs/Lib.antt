mod Calling
mod GoneOutLaws
mod Keeping
mod Lending
mod Settling
