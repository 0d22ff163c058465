pub mod VectorsFacts
