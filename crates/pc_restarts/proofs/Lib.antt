mod Rules
mod Worlds
