mod LineTurns
mod Printed
