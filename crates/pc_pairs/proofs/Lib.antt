mod DumpLaws
mod LoadLaws
mod PointDumpLaws
mod PrintedLines
mod PrintedWords
