pub mod JsonLines
